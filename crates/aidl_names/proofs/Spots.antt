-- The breaches at spots: those that a loop adds, and those of all rules one after the other.
use Rattle.std.proofs.Common.{◌≡◌, ◌<◌, ◌+◌, ℕ, Bool, List, [], ◌++◌, map, length, take, drop, get_or, sym, ◌∙◌, ap, append_assoc, append-nil}
use Rattle.std.specs.List.{filter, flat_map}
use Rattle.std.proofs.lemmas.List.{map-append}
use Rattle.std.proofs.lemmas.Simd.{map-map}
use Rattle.aidl_syntax.specs.Sources.{Source}
use Rattle.declared_names.specs.Declarations.{declarations}
use Rattle.declared_names.specs.Numbered.{after_earlier, in_each}
use Rattle.declared_names.proofs.lemmas.Earlier.{earlier-next, filter-next, one_if}
use Rattle.aidl_base.specs.declared.breach.Breach.{Breach}
use Rattle.aidl_names.specs.Breaches.{rules}
use Rattle.aidl_names.specs.Rules.{Spot, breach, breaches_at, repeated_inside, taken, other_imports, WrongFile, UnknownImport, UnknownType, LeftOutType}

module _ {A : Type 0} (rule : ℕ) (spot : A → Spot) where
  -- the breach at a thing's spot
  abbrev found : A → Breach
  found x = breach rule (spot x).0 (spot x).1

  pub many : (xs : List A) → breaches_at rule (map spot xs) ≡ map found xs
  many xs = map-map (λ (s : Spot). breach rule s.0 s.1) spot xs

  -- the next of the things that pass a test
  pub filter_spot-next : (test : A → Bool) (xs : List A) (i : ℕ) (x : A) → i < length xs → x ≡ get_or xs i x
      → breaches_at rule (map spot (filter test (drop i xs))) ≡ one_if (test x) (found x) ++ breaches_at rule (map spot (filter test (drop (i + 1) xs)))
  filter_spot-next test xs i x lt is =
      many (filter test (drop i xs)) ∙ filter-next found test xs i x lt is ∙ ap (λ bs. one_if (test x) (found x) ++ bs) (sym (many (filter test (drop (i + 1) xs))))

  -- the next of the things that pass a test with those before them
  pub earlier_spot-next : (test : List A → A → Bool) (xs : List A) (i : ℕ) (x : A) → i < length xs → x ≡ get_or xs i x
      → breaches_at rule (map spot (after_earlier test (take i xs) (drop i xs)))
      ≡ one_if (test (take i xs) x) (found x) ++ breaches_at rule (map spot (after_earlier test (take (i + 1) xs) (drop (i + 1) xs)))
  earlier_spot-next test xs i x lt is =
      many (after_earlier test (take i xs) (drop i xs)) ∙ earlier-next found test xs i x lt is
      ∙ ap (λ bs. one_if (test (take i xs) x) (found x) ++ bs) (sym (many (after_earlier test (take (i + 1) xs) (drop (i + 1) xs))))

in_turn : (o a b c d e f : List Breach) → o ++ ((a ++ b ++ c) ++ (d ++ (e ++ f))) ≡ o ++ a ++ b ++ c ++ d ++ e ++ f
in_turn o a b c d e f =
    sym (append_assoc o (a ++ b ++ c) (d ++ (e ++ f)))
    ∙ ap (λ bs. bs ++ (d ++ (e ++ f))) (sym (append_assoc o (a ++ b) c) ∙ ap (λ bs. bs ++ c) (sym (append_assoc o a b)))
    ∙ sym (append_assoc (o ++ a ++ b ++ c) d (e ++ f)) ∙ sym (append_assoc (o ++ a ++ b ++ c ++ d) e f)

-- those of all rules, as they are added
pub spread : (files : List Source) → flat_map (λ r. breaches_at r.0 (r.1 files)) rules
    ≡ breaches_at 1 (WrongFile files)
    ++ breaches_at 2 (flat_map repeated_inside (declarations files)) ++ breaches_at 2 (taken (declarations files)) ++ breaches_at 2 (in_each other_imports 0 files)
    ++ breaches_at 3 (UnknownImport files) ++ breaches_at 4 (UnknownType files) ++ breaches_at 5 (LeftOutType files)
spread files =
    let inside = flat_map repeated_inside (declarations files) in
    let again = taken (declarations files) in
    let others = in_each other_imports 0 files in
    let second = λ (s : Spot). breach 2 s.0 s.1 in
    let one = breaches_at 1 (WrongFile files) in
    let two = breaches_at 2 inside ++ breaches_at 2 again ++ breaches_at 2 others in
    let three = breaches_at 3 (UnknownImport files) in
    let four = breaches_at 4 (UnknownType files) in
    let last = breaches_at 5 (LeftOutType files) in
    ap (λ bs. one ++ (bs ++ (three ++ (four ++ (last ++ []))))) (map-append second (inside ++ again) others ∙ ap (λ bs. bs ++ breaches_at 2 others) (map-append second inside again))
    ∙ ap (λ bs. one ++ (two ++ (three ++ (four ++ bs)))) (append-nil last)
    ∙ in_turn one (breaches_at 2 inside) (breaches_at 2 again) (breaches_at 2 others) three four last
