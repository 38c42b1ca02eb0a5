-- Items that a test finds distinct stand at different places only where their keys differ; what is sorted is distinct.
use Rattle.std.proofs.Common.{◌≡◌, ℕ, zero, suc, Bool, true, false, not, ◌||◌, List, [], ◌∷◌, ◌++◌, map, Some, slice_get, nat_cmp, Ordering, Less, Equal, Greater, refl, sym, ap, ◌∙◌, subst, true≢false}
use Rattle.std.specs.Cmp.Lexicographic.{slice_cmp}
use Rattle.std.specs.List.{list_any, list_all, AllByRecursion}
use Rattle.std.specs.List.Sorted.{IsStrictlySortedBy}
use Rattle.std.specs.Ordering.{is_lt, is_eq}
use Rattle.std.proofs.lemmas.List.Folds.{list_any-append, list_all-append}
use Rattle.std.proofs.lemmas.Map.Text.{is_eq-slice_cmp}
use Rattle.aidl_base.proofs.lemmas.Tests.{both, neither, flipped}
use Rattle.aidl_schema.specs.Holds.{AreApart}
use Rattle.aidl_schema.specs.Names.{are_distinct, are_ascending, is_before}
use Rattle.aidl_schema.specs.Same.{same_text}

or_right : (a b : Bool) → b ≡ true → (a || b) ≡ true
or_right true b e = refl
or_right false b e = e

not_true : (b : Bool) → b ≡ false → not b ≡ true
not_true true e = cc
not_true false e = refl

module _ {X K : Type 0} (same : K → K → Bool) (key : X → K) (itself : (k : K) → same k k ≡ true) where
  there : (n : K) (xs : List X) (i : ℕ) (y : X) → slice_get xs i ≡ Some y → n ≡ key y → list_any (λ z. same n z) (map key xs) ≡ true
  there n [] i y at e = cc
  there n (x ∷ xs) zero y at e =
      let one : x ≡ y = cc in
      let here : same n (key x) ≡ true = subst (λ m. same n m ≡ true) (e ∙ ap key (sym one)) (itself n) in
      rw here refl
  there n (x ∷ xs) (suc i) y at e = or_right (same n (key x)) (list_any (λ z. same n z) (map key xs)) (there n xs i y at e)

  clash : (a x : X) (xs : List X) (i : ℕ) (y : X) → a ≡ x → are_distinct same (map key (a ∷ xs)) ≡ true → slice_get xs i ≡ Some y → key x ≡ key y → ⊥
  clash a x xs i y is h at e =
      let two = both (not (list_any (λ z. same (key a) z) (map key xs))) (are_distinct same (map key xs)) h in
      true≢false (sym (there (key a) xs i y at (ap key is ∙ e)) ∙ flipped (list_any (λ z. same (key a) z) (map key xs)) two.0)

  pub apart : (xs : List X) → are_distinct same (map key xs) ≡ true → AreApart key xs
  apart [] h j k x y p q e = cc
  apart (a ∷ xs) h zero zero x y p q e = refl
  apart (a ∷ xs) h zero (suc k) x y p q e = let is : a ≡ x = cc in absurd (clash a x xs k y is h q e)
  apart (a ∷ xs) h (suc j) zero x y p q e = let is : a ≡ y = cc in absurd (clash a y xs j x is h p (sym e))
  apart (a ∷ xs) h (suc j) (suc k) x y p q e =
      ap suc (apart xs (both (not (list_any (λ z. same (key a) z) (map key xs))) (are_distinct same (map key xs)) h).1 j k x y p q e)

-- the front and the rest of distinct items, and of items that all pass a test
pub distinct_parts : {K : Type 0} (same : K → K → Bool) (xs ys : List K) → are_distinct same (xs ++ ys) ≡ true → (are_distinct same xs ≡ true) × (are_distinct same ys ≡ true)
distinct_parts same [] ys h = (refl, h)
distinct_parts same (x ∷ xs) ys h =
    let two = both (not (list_any (λ y. same x y) (xs ++ ys))) (are_distinct same (xs ++ ys)) h in
    let none = sym (list_any-append (λ y. same x y) xs ys) ∙ flipped (list_any (λ y. same x y) (xs ++ ys)) two.0 in
    let rest = distinct_parts same xs ys two.1 in
    let here = not_true (list_any (λ y. same x y) xs) (neither (list_any (λ y. same x y) xs) (list_any (λ y. same x y) ys) none).0 in
    (rw (here, rest.0) refl, rest.1)

pub all_parts : {K : Type 0} (test : K → Bool) (xs ys : List K) → list_all test (xs ++ ys) ≡ true → (list_all test xs ≡ true) × (list_all test ys ≡ true)
all_parts test xs ys h = both (list_all test xs) (list_all test ys) (sym (list_all-append test xs ys) ∙ h)

-- in order
less_is : (o : Ordering) → is_lt o ≡ true → o ≡ Less
less_is Less e = refl
less_is Equal e = cc
less_is Greater e = cc

each_before : (x : List ℕ) (ys : List (List ℕ)) → list_all (λ y. is_before x y) ys ≡ true → AllByRecursion (λ y. slice_cmp nat_cmp x y ≡ Less) ys
each_before x [] h = tt
each_before x (y ∷ ys) h =
    let two = both (is_before x y) (list_all (λ z. is_before x z) ys) h in
    (less_is (slice_cmp nat_cmp x y) two.0, each_before x ys two.1)

pub sorted : (xs : List (List ℕ)) → are_ascending xs ≡ true → IsStrictlySortedBy (slice_cmp nat_cmp) xs
unfolding IsStrictlySortedBy
sorted [] h = tt
sorted (x ∷ xs) h = let two = both (list_all (λ y. is_before x y) xs) (are_ascending xs) h in (each_before x xs two.0, sorted xs two.1)

less_differs : (o : Ordering) → is_lt o ≡ true → is_eq o ≡ false
less_differs Less e = refl
less_differs Equal e = cc
less_differs Greater e = cc

before_differs : (x y : List ℕ) → is_before x y ≡ true → same_text x y ≡ false
before_differs x y h = sym (is_eq-slice_cmp x y) ∙ less_differs (slice_cmp nat_cmp x y) h

none_same : (x : List ℕ) (ys : List (List ℕ)) → list_all (λ y. is_before x y) ys ≡ true → list_any (λ y. same_text x y) ys ≡ false
none_same x [] h = refl
none_same x (y ∷ ys) h =
    let two = both (is_before x y) (list_all (λ z. is_before x z) ys) h in
    rw (before_differs x y two.0, none_same x ys two.1) refl

pub ascending_distinct : (xs : List (List ℕ)) → are_ascending xs ≡ true → are_distinct same_text xs ≡ true
ascending_distinct [] h = refl
ascending_distinct (x ∷ xs) h =
    let two = both (list_all (λ y. is_before x y) xs) (are_ascending xs) h in
    rw (not_true (list_any (λ y. same_text x y) xs) (none_same x xs two.0), ascending_distinct xs two.1) refl
