-- Files that pass no limit on files are short.
use Rattle.std.proofs.Common.{◌≡◌, ◌≤◌, ℕ, Bool, true, false, cond, nat_lt, List, [], ◌∷◌, length, Some, None, refl, arith}
use Rattle.std.specs.List.{All, list_any}
use Rattle.std.proofs.lemmas.Bool.Decides.{nat_tests}
use Rattle.std.proofs.lemmas.List.Elements.{All-nil, All-cons}
use Rattle.aidl_base.specs.declared.limit.LimitName.{LimitName}
use Rattle.aidl_base.specs.declared.source_file.SourceFile.{SourceFile}
use Rattle.aidl_base.proofs.lemmas.Tests.{neither}
use Rattle.tree_files.specs.Sizes.{is_long, oversized}

-- neither of two tests found a limit
neither-test : (b d : Bool) (x y : LimitName) → cond b (Some x) (cond d (Some y) None) ≡ None → d ≡ false
neither-test true d x y e = absurd cc
neither-test false true x y e = absurd cc
neither-test false false x y e = refl

abbrev pub IsShort : SourceFile → Type 0
IsShort f = length f.bytes ≤ 262144

at-most : (k n : ℕ) → nat_lt k n ≡ false → n ≤ k
at-most k n e = grind (arith, nat_tests)

each : (fs : List SourceFile) → list_any is_long fs ≡ false → All IsShort fs
each [] e = All-nil IsShort
each (f ∷ fs) e =
    let n = neither (is_long f) (list_any is_long fs) e in
    All-cons IsShort f fs (at-most 262144 (length f.bytes) n.0) (each fs n.1)

pub all-short : (fs : List SourceFile) → oversized fs ≡ None → All IsShort fs
all-short fs e = each fs (neither-test (nat_lt 4096 (length fs)) (list_any is_long fs) _ _ e)
