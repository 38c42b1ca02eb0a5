-- Files as they are parsed are those of some bytes, few and short ones.
use Rattle.std.proofs.Common.{◌≡◌, ◌≤◌, ℕ, Bool, true, false, cond, nat_lt, List, [], ◌∷◌, length, Some, None, refl, arith}
use Rattle.std.specs.List.{All, AllZip, list_any}
use Rattle.std.proofs.lemmas.Bool.Decides.{nat_tests}
use Rattle.std.proofs.lemmas.List.Elements.{All-nil, All-cons}
use Rattle.aidl_base.specs.declared.limit.LimitName.{LimitName}
use Rattle.aidl_base.specs.declared.source_file.SourceFile.{SourceFile}
use Rattle.aidl_base.proofs.lemmas.Tests.{neither}
use Rattle.aidl_syntax.specs.declared.tree.ParsedFile.{ParsedFile}
use Rattle.aidl_syntax.specs.Sources.{IsOfBytes, AreOfBytes}
use Rattle.tree_files.specs.Files.{IsParsed}
use Rattle.tree_files.specs.Sizes.{is_long}
use Rattle.tree_files.specs.Parsed.{AreParsed}

-- neither of two tests found a limit
neither-test : (b d : Bool) (x y : LimitName) → cond b (Some x) (cond d (Some y) None) ≡ None → (b ≡ false) × (d ≡ false)
neither-test true d x y e = absurd cc
neither-test false true x y e = absurd cc
neither-test false false x y e = (refl, refl)

at-most : (k n : ℕ) → nat_lt k n ≡ false → n ≤ k
at-most k n e = grind (arith, nat_tests)

as-many : (fs : List SourceFile) (ps : List ParsedFile) → AllZip IsParsed fs ps → length ps ≤ length fs
as-many [] [] h = omega arith
as-many [] (p ∷ ps) h = absurd h
as-many (f ∷ fs) [] h = absurd h
as-many (f ∷ fs) (p ∷ ps) h = let l = as-many fs ps h.1 in omega (arith, l)

each : (fs : List SourceFile) (ps : List ParsedFile) → list_any is_long fs ≡ false → AllZip IsParsed fs ps → All IsOfBytes ps
each [] [] e h = All-nil IsOfBytes
each [] (p ∷ ps) e h = absurd h
each (f ∷ fs) [] e h = absurd h
each (f ∷ fs) (p ∷ ps) e h =
    let n = neither (is_long f) (list_any is_long fs) e in
    All-cons IsOfBytes p ps (f.bytes, h.0.1.0, at-most 262144 (length f.bytes) n.0, h.0.1.1, h.0.1.2) (each fs ps n.1 h.1)

pub of-bytes : (fs : List SourceFile) (ps : List ParsedFile) → AreParsed fs ps → AreOfBytes ps
of-bytes fs ps h =
    let n = neither-test (nat_lt 4096 (length fs)) (list_any is_long fs) _ _ h.sizes in
    let l = as-many fs ps h.trees in
    let k = at-most 4096 (length fs) n.0 in
    record { count = omega (arith, l, k); each = each fs ps n.1 h.trees }
