-- Paths of which each comes before the next one.
use Rattle.std.proofs.Common.{◌≡◌, ℕ, ◌+◌, ◌-◌, ◌<◌, ◌≤◌, true, List, [], ◌∷◌, map, length, get_or, String, Global, string_bytes, inl, inr, refl, sym, ap, ◌∙◌, arith}
use Rattle.std.specs.List.{AllByRecursion, list_all}
use Rattle.std.specs.List.Sorted.{IsStrictlySortedBy}
use Rattle.std.specs.Ordering.{nat_cmp, is_lt}
use Rattle.std.specs.Cmp.Lexicographic.{slice_cmp}
use Rattle.std.specs.declared.cmp.Ordering.TheVariants.{Less}
use Rattle.std.proofs.lemmas.Bool.{cases_lt}
use Rattle.std.proofs.lemmas.Cmp.{nat_list_cmp_total}
use Rattle.std.proofs.lemmas.List.{get_or-map, length-map}
use Rattle.std.proofs.lemmas.Map.Keys.{sorted_from_all_adjacent, sorted_head, sorted_tail}
use Rattle.aidl_outside.specs.Files.{is_ascending}

module _ (paths : List (String Global)) where
  -- the path at a place
  abbrev pub at : ℕ → List ℕ
  at k = get_or (map string_bytes paths) k []

  -- of so many paths each comes before the next one
  abbrev pub Rise : ℕ → Type 0
  Rise n = (k : ℕ) → k + 1 < n → slice_cmp nat_cmp (at k) (at (k + 1)) ≡ Less

  at_place : (i k : ℕ) (path : String Global) → i < length paths → path ≡ get_or paths i path → k ≡ i → at k ≡ string_bytes path
  at_place i k path lt is same = ap at same ∙ get_or-map string_bytes paths i path [] lt ∙ ap string_bytes (sym is)

  pub one_more : (place : ℕ) (a b : String Global) → 1 ≤ place → place < length paths → a ≡ get_or paths (place - 1) a → b ≡ get_or paths place b
      → slice_cmp nat_cmp (string_bytes a) (string_bytes b) ≡ Less → Rise place → Rise (place + 1)
  one_more place a b ge lt is_a is_b order before k below = elim (cases_lt (k + 1) place) [
    | inl earlier ↦ before k earlier
    | inr here ↦
        ap (λ path. slice_cmp nat_cmp path (at (k + 1))) (at_place (place - 1) k a (omega arith) is_a (omega arith))
        ∙ ap (slice_cmp nat_cmp (string_bytes a)) (at_place place (k + 1) b lt is_b (omega arith))
        ∙ order
  ]

before_all : (path : List ℕ) (paths : List (List ℕ)) → AllByRecursion (λ later. slice_cmp nat_cmp path later ≡ Less) paths → list_all (λ later. is_lt (slice_cmp nat_cmp path later)) paths ≡ true
before_all path [] h = refl
before_all path (p ∷ paths) h = rw (ap is_lt h.0) (before_all path paths h.1)

from_sorted : (paths : List (List ℕ)) → IsStrictlySortedBy (slice_cmp nat_cmp) paths → is_ascending paths ≡ true
from_sorted [] h = refl
from_sorted (p ∷ paths) h = rw (before_all p paths (sorted_head (slice_cmp nat_cmp) p paths h)) (from_sorted paths (sorted_tail (slice_cmp nat_cmp) p paths h))

pub ascending : (paths : List (String Global)) (place : ℕ) → length paths ≤ place → Rise paths place → is_ascending (map string_bytes paths) ≡ true
ascending paths place end rise = from_sorted (map string_bytes paths) (sorted_from_all_adjacent nat_list_cmp_total (map string_bytes paths) [] (λ k lt. rise k (omega (arith, length-map paths (string_bytes {Z = Global})))))
