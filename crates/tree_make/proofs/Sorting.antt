-- Numbers in order: their decimals ascend, and they are the numbers below the count.
use Rattle.std.proofs.Common.{◌≡◌, ℕ, zero, suc, ◌+◌, ◌<◌, ◌⊎◌, inl, inr, ◌↔◌, List, [], ◌∷◌, map, refl, sym, ap, ◌∙◌, subst, arith}
use Rattle.std.specs.Prelude.{Contains}
use Rattle.std.specs.List.{fold, range_with_len, AllByRecursion}
use Rattle.std.specs.List.Sorted.{IsStrictlySortedBy}
use Rattle.std.specs.Fmt.{decimal}
use Rattle.std.specs.Cmp.Lexicographic.{slice_cmp}
use Rattle.std.specs.FinMap.{slice_cmp-IsAntisymmetric, nat_cmp-IsAntisymmetric}
use Rattle.std.specs.declared.cmp.Ordering.{Ordering}
use Rattle.std.specs.declared.cmp.Ordering.TheVariants.{Less, Equal, Greater}
use Rattle.std.specs.Ordering.{nat_cmp, match_ordering, ordering_reverse}
use Rattle.std.proofs.lemmas.Cmp.{nat_list_cmp_total}
use Rattle.std.proofs.lemmas.List.FromFn.{length-range_with_len, get_or-range_with_len}
use Rattle.tree_make.specs.Made.{put, in_order}

abbrev compare : List ℕ → List ℕ → Ordering
compare p q = slice_cmp nat_cmp p q

all_more : (P Q : List ℕ → Type 0) → ((p : List ℕ) → P p → Q p) → (ps : List (List ℕ)) → AllByRecursion P ps → AllByRecursion Q ps
all_more P Q h [] all = tt
all_more P Q h (p ∷ ps) all = (h p all.0, all_more P Q h ps all.1)

-- what holds of each decimal holds after a number has gone in, where it holds of its decimal
all_put : (P : List ℕ → Type 0) (js : List ℕ) (k : ℕ) → P (decimal k) → AllByRecursion P (map decimal js) → AllByRecursion P (map decimal (put js k))
all_put P [] k here all = (here, tt)
all_put P (j ∷ js) k here all = by_order (compare (decimal k) (decimal j)) (all_put P js k here all.1)
  where
    by_order : (o : Ordering) → AllByRecursion P (map decimal (put js k)) → AllByRecursion P (map decimal (match_ordering o (k ∷ j ∷ js) (k ∷ js) (j ∷ put js k)))
    by_order Less later = (here, all)
    by_order Equal later = (here, all.1)
    by_order Greater later = (all.0, later)

same_decimal : (k j : ℕ) → compare (decimal k) (decimal j) ≡ Equal → decimal k ≡ decimal j
same_decimal k j e = slice_cmp-IsAntisymmetric nat_cmp-IsAntisymmetric (decimal k) (decimal j) e

put_sorted : (js : List ℕ) (k : ℕ) → IsStrictlySortedBy compare (map decimal js) → IsStrictlySortedBy compare (map decimal (put js k))
unfolding IsStrictlySortedBy
put_sorted [] k sorted = (tt, tt)
put_sorted (j ∷ js) k sorted = by_order (compare (decimal k) (decimal j)) refl (put_sorted js k sorted.1)
  where
    by_order : (o : Ordering) → compare (decimal k) (decimal j) ≡ o → IsStrictlySortedBy compare (map decimal (put js k))
        → IsStrictlySortedBy compare (map decimal (match_ordering o (k ∷ j ∷ js) (k ∷ js) (j ∷ put js k)))
    by_order Less e later = (
      (
        e,
        all_more (λ p. compare (decimal j) p ≡ Less) (λ p. compare (decimal k) p ≡ Less) (λ p h. nat_list_cmp_total.trans (decimal k) (decimal j) p e h) (map decimal js) sorted.0,
      ),
      sorted,
    )
    by_order Equal e later = (subst (λ q. AllByRecursion (λ p. compare q p ≡ Less) (map decimal js)) (sym (same_decimal k j e)) sorted.0, sorted.1)
    by_order Greater e later =
        (all_put (λ p. compare (decimal j) p ≡ Less) js k (nat_list_cmp_total.antisymm (decimal j) (decimal k) ∙ ap ordering_reverse e) sorted.0, later)

fold_sorted : (ks js : List ℕ) → IsStrictlySortedBy compare (map decimal js) → IsStrictlySortedBy compare (map decimal (fold put js ks))
fold_sorted [] js sorted = sorted
fold_sorted (k ∷ ks) js sorted = fold_sorted ks (put js k) (put_sorted js k sorted)

pub is_sorted : (n : ℕ) → IsStrictlySortedBy compare (map decimal (in_order n))
unfolding IsStrictlySortedBy
is_sorted n = fold_sorted (range_with_len 0 n) [] tt

-- What a list has: its first, or one of the others.
module _ (x : ℕ) where
  here : (k : ℕ) (ks : List ℕ) → k ≡ x → Contains (k ∷ ks) x
  here k ks e = (zero, omega arith, e)

  later : (k : ℕ) (ks : List ℕ) → Contains ks x → Contains (k ∷ ks) x
  later k ks h = (suc h.0, omega (arith, h.1), h.2)

  first_or : (k : ℕ) (ks : List ℕ) → Contains (k ∷ ks) x → (k ≡ x) ⊎ Contains ks x
  first_or k ks (zero, lt, e) = inl e
  first_or k ks (suc i, lt, e) = inr (i, omega arith, e)

  put_has : (js : List ℕ) (k : ℕ) → Contains (put js k) x → (k ≡ x) ⊎ Contains js x
  put_has [] k h = first_or k [] h
  put_has (j ∷ js) k h = by_order (compare (decimal k) (decimal j)) (put_has js k) h
    where
      by_order : (o : Ordering) → (Contains (put js k) x → (k ≡ x) ⊎ Contains js x) → Contains (match_ordering o (k ∷ j ∷ js) (k ∷ js) (j ∷ put js k)) x
          → (k ≡ x) ⊎ Contains (j ∷ js) x
      by_order Less more h = first_or k (j ∷ js) h
      by_order Equal more h = elim (first_or k js h) [ inl is ↦ inl is | inr old ↦ inr (later j js old) ]
      by_order Greater more h = elim (first_or j (put js k) h) [
        | inl is ↦ inr (here j js is)
        | inr among ↦ elim (more among) [ inl is ↦ inl is | inr old ↦ inr (later j js old) ]
      ]

  put_adds : (js : List ℕ) (k : ℕ) → k ≡ x → Contains (put js k) x
  put_adds [] k is = here k [] is
  put_adds (j ∷ js) k is = by_order (compare (decimal k) (decimal j)) (put_adds js k is)
    where
      by_order : (o : Ordering) → Contains (put js k) x → Contains (match_ordering o (k ∷ j ∷ js) (k ∷ js) (j ∷ put js k)) x
      by_order Less more = here k (j ∷ js) is
      by_order Equal more = here k js is
      by_order Greater more = later j (put js k) more

  fold_has : (ks js : List ℕ) → Contains (fold put js ks) x → Contains js x ⊎ Contains ks x
  fold_has [] js h = inl h
  fold_has (k ∷ ks) js h = elim (fold_has ks (put js k) h) [
    | inl put_in ↦ elim (put_has js k put_in) [ inl is ↦ inr (here k ks is) | inr old ↦ inl old ]
    | inr among ↦ inr (later k ks among)
  ]

  -- below N each number has its own decimal
  module _ (N : ℕ) (own : (k : ℕ) → k < N → x < N → decimal k ≡ decimal x → k ≡ x) (small : x < N) where
    put_keeps : (js : List ℕ) (k : ℕ) → k < N → Contains js x → Contains (put js k) x
    put_keeps [] k lt h = absurd (omega (arith, h.1))
    put_keeps (j ∷ js) k lt h = by_order (compare (decimal k) (decimal j)) refl (put_keeps js k lt)
      where
        by_order : (o : Ordering) → compare (decimal k) (decimal j) ≡ o → (Contains js x → Contains (put js k) x) → Contains (match_ordering o (k ∷ j ∷ js) (k ∷ js) (j ∷ put js k)) x
        by_order Less e more = later k (j ∷ js) h
        by_order Equal e more = elim (first_or j js h) [ inl is ↦ here k js (own k lt small (same_decimal k j e ∙ ap decimal is)) | inr old ↦ later k js old ]
        by_order Greater e more = elim (first_or j js h) [ inl is ↦ here j (put js k) is | inr old ↦ later j (put js k) (more old) ]

    fold_keeps : (ks js : List ℕ) → AllByRecursion (λ k. k < N) ks → Contains js x → Contains (fold put js ks) x
    fold_keeps [] js all h = h
    fold_keeps (k ∷ ks) js all h = fold_keeps ks (put js k) all.1 (put_keeps js k all.0 h)

    fold_adds : (ks js : List ℕ) → AllByRecursion (λ k. k < N) ks → Contains ks x → Contains (fold put js ks) x
    fold_adds [] js all h = absurd (omega (arith, h.1))
    fold_adds (k ∷ ks) js all h = elim (first_or k ks h) [
      | inl is ↦ fold_keeps ks (put js k) all.1 (put_adds js k is)
      | inr among ↦ fold_adds ks (put js k) all.1 among
    ]

all_below : (N a n : ℕ) → a + n < N → AllByRecursion (λ k. k < N) (range_with_len a n)
all_below N a zero lt = tt
all_below N a (suc n) lt = (omega arith, all_below N (a + 1) n (omega arith))

in_range : (n k : ℕ) → k < n → Contains (range_with_len 0 n) k
in_range n k lt = (k, omega (arith, length-range_with_len 0 n), get_or-range_with_len 0 n k k lt ∙ omega arith)

from_range : (n k : ℕ) → Contains (range_with_len 0 n) k → k < n
from_range n k h =
    let lt : h.0 < n = omega (arith, h.1, length-range_with_len 0 n) in
    let is : h.0 ≡ k = omega (arith, h.2, get_or-range_with_len 0 n h.0 k lt) in
    omega arith

none_there : (x : ℕ) → Contains [] x → ⊥
none_there x h = omega (arith, h.1)

pub same_members : (N n k : ℕ) → ((j : ℕ) → j < N → k < N → decimal j ≡ decimal k → j ≡ k) → n < N → Contains (in_order n) k ↔ (k < n)
same_members N n k own lt = (
  λ h. elim (fold_has k (range_with_len 0 n) [] h) [ inl none ↦ absurd (none_there k none) | inr among ↦ from_range n k among ],
  λ less. fold_adds k N own (omega arith) (range_with_len 0 n) [] (all_below N 0 n (omega arith)) (in_range n k less),
)
