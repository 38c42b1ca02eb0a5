-- Items that are put at their places, by the order of a key's bytes.
use Rattle.std.proofs.Common.{Some, slice_get, ◌≡◌, ◌≤◌, ◌+◌, ℕ, zero, suc, Bool, true, false, ◌&&◌, List, [], ◌∷◌, map, fold, Ordering, Less, Equal, Greater, nat_cmp, is_lt, is_eq, refl, sym, ap, ◌∙◌, subst, arith}
use Rattle.std.specs.Cmp.Lexicographic.{slice_cmp}
use Rattle.std.specs.List.{list_any, list_all}
use Rattle.std.specs.Ordering.{match_ordering, ordering_reverse}
use Rattle.std.proofs.lemmas.Cmp.{nat_list_cmp_total}
use Rattle.std.proofs.lemmas.List.Folds.{list_all-map}
use Rattle.std.proofs.lemmas.Map.Text.{is_eq-slice_cmp}
use Rattle.aidl_base.proofs.lemmas.Tests.{both, neither}
use Rattle.aidl_schema.specs.Names.{are_ascending, is_before}
use Rattle.aidl_schema.specs.Same.{same_text}
use Rattle.aidl_schema.proofs.lemmas.Orders.{tied}
use Rattle.tree_schema.proofs.lemmas.walked.Totals.{total, misses, misses-none, all-by_misses, total-map, counts-itself, is_that, none-by_count}

abbrev cmp : List ℕ → List ℕ → Ordering
cmp = slice_cmp nat_cmp

abbrev pub placed : {X : Type 0} → (X → List ℕ) → List X → X → List X
placed key [] x = x ∷ []
placed key (y ∷ more) x = match_ordering (slice_cmp nat_cmp (key x) (key y)) (x ∷ y ∷ more) (x ∷ more) (y ∷ placed key more x)

less_is : (o : Ordering) → is_lt o ≡ true → o ≡ Less
less_is Less e = refl
less_is Equal e = cc
less_is Greater e = cc

before_all : (x y : List ℕ) (zs : List (List ℕ)) → cmp x y ≡ Less → list_all (λ z. is_before y z) zs ≡ true → list_all (λ z. is_before x z) zs ≡ true
before_all x y [] e h = refl
before_all x y (z ∷ zs) e h =
    let two = both (is_before y z) (list_all (λ w. is_before y w) zs) h in
    let here : cmp x z ≡ Less = nat_list_cmp_total.trans x y z e (less_is (cmp y z) two.0) in
    rw here (before_all x y zs e two.1)

module _ {X : Type 0} (key : X → List ℕ) where
  -- an item takes the place of another, or stands beside all others
  pub placed-total : (f : X → ℕ) (ys : List X) (x : X) → total f (placed key ys x) ≤ total f ys + f x
  placed-total f [] x = omega arith
  placed-total f (y ∷ more) x = by (cmp (key x) (key y)) (placed-total f more x) where
    by : (o : Ordering) → total f (placed key more x) ≤ total f more + f x → total f (match_ordering o (x ∷ y ∷ more) (x ∷ more) (y ∷ placed key more x)) ≤ (f y + total f more) + f x
    by Less h = omega arith
    by Equal h = omega arith
    by Greater h = omega arith

  pub placed-all : (p : X → Bool) (ys : List X) (x : X) → list_all p ys ≡ true → p x ≡ true → list_all p (placed key ys x) ≡ true
  placed-all p ys x h e =
      let all = misses-none p ys h in
      let one : misses p x ≡ 0 = rw e refl in
      let le = placed-total (misses p) ys x in
      all-by_misses p (placed key ys x) (omega arith)

  pub placed-ascending : (ys : List X) (x : X) → are_ascending (map key ys) ≡ true → are_ascending (map key (placed key ys x)) ≡ true
  placed-ascending [] x h = refl
  placed-ascending (y ∷ more) x h = by (cmp (key x) (key y)) refl (placed-ascending more x two.1) where
    two : (list_all (λ z. is_before (key y) z) (map key more) ≡ true) × (are_ascending (map key more) ≡ true)
    two = both (list_all (λ z. is_before (key y) z) (map key more)) (are_ascending (map key more)) h

    by : (o : Ordering) → cmp (key x) (key y) ≡ o → are_ascending (map key (placed key more x)) ≡ true → are_ascending (map key (match_ordering o (x ∷ y ∷ more) (x ∷ more) (y ∷ placed key more x))) ≡ true
    by Less e rest = rw (e, before_all (key x) (key y) (map key more) e two.0) h
    by Equal e rest = subst (λ (k : List ℕ). (list_all (λ z. is_before k z) (map key more) && are_ascending (map key more)) ≡ true) (sym (tied (key x) (key y) e)) h
    by Greater e rest =
        let turned : cmp (key y) (key x) ≡ Less = nat_list_cmp_total.antisymm (key y) (key x) ∙ ap ordering_reverse e in
        let last : is_before (key y) (key x) ≡ true = ap is_lt turned in
        let front : list_all (λ z. is_before (key y) (key z)) more ≡ true = sym (list_all-map (λ z. is_before (key y) z) key more) ∙ two.0 in
        let all = list_all-map (λ z. is_before (key y) z) key (placed key more x) ∙ placed-all (λ z. is_before (key y) (key z)) more x front last in
        rw all rest

  -- what has a key of its own stands beside all others
  pub placed-exact : (f : X → ℕ) (ys : List X) (x : X) → list_any (λ z. same_text (key x) z) (map key ys) ≡ false → total f (placed key ys x) ≡ total f ys + f x
  placed-exact f [] x h = omega arith
  placed-exact f (y ∷ more) x h = by (cmp (key x) (key y)) (is_eq-slice_cmp (key x) (key y) ∙ two.0) (placed-exact f more x two.1) where
    two : (same_text (key x) (key y) ≡ false) × (list_any (λ z. same_text (key x) z) (map key more) ≡ false)
    two = neither (same_text (key x) (key y)) (list_any (λ z. same_text (key x) z) (map key more)) h

    by : (o : Ordering) → is_eq o ≡ false → total f (placed key more x) ≡ total f more + f x → total f (match_ordering o (x ∷ y ∷ more) (x ∷ more) (y ∷ placed key more x)) ≡ (f y + total f more) + f x
    by Less n e = omega arith
    by Equal n e = cc
    by Greater n e = omega arith

  -- the same of all items, one after another
  pub all-total : (f : X → ℕ) (ys xs : List X) → total f (fold (placed key) ys xs) ≤ total f ys + total f xs
  all-total f ys [] = omega arith
  all-total f ys (x ∷ xs) = let a = placed-total f ys x in let b = all-total f (placed key ys x) xs in omega arith

  pub all-all : (p : X → Bool) (xs : List X) → list_all p xs ≡ true → list_all p (fold (placed key) [] xs) ≡ true
  all-all p xs h =
      let none = misses-none p xs h in
      let le = all-total (misses p) [] xs in
      all-by_misses p (fold (placed key) [] xs) (omega arith)

  pub all-ascending : (ys xs : List X) → are_ascending (map key ys) ≡ true → are_ascending (map key (fold (placed key) ys xs)) ≡ true
  all-ascending ys [] h = h
  all-ascending ys (x ∷ xs) h = all-ascending (placed key ys x) xs (placed-ascending ys x h)

  pub all-exact : (f : X → ℕ) (ys xs : List X) → ((t : List ℕ) → total (λ y. is_that t (key y)) ys + total (λ y. is_that t (key y)) xs ≤ 1) → total f (fold (placed key) ys xs) ≡ total f ys + total f xs
  all-exact f ys [] h = omega arith
  all-exact f ys (x ∷ xs) h =
      let here : total (λ y. is_that (key x) (key y)) ys + (is_that (key x) (key x) + total (λ y. is_that (key x) (key y)) xs) ≤ 1 = h (key x) in
      let itself = counts-itself (key x) in
      let front = total-map (is_that (key x)) key ys in
      let none : list_any (λ z. same_text (key x) z) (map key ys) ≡ false = none-by_count (key x) (map key ys) (omega arith) in
      let one = placed-exact f ys x none in
      let later = all-exact f (placed key ys x) xs (λ t.
      let at : total (λ y. is_that t (key y)) ys + (is_that t (key x) + total (λ y. is_that t (key y)) xs) ≤ 1 = h t in
      let more = placed-exact (λ y. is_that t (key y)) ys x none in
      omega arith) in
      omega arith

-- a way to put items that goes by the same cases
module _ {X : Type 0} (key : X → List ℕ) (put : List X → X → List X) (first : (x : X) → put [] x ≡ x ∷ [])
    (next : (y : X) (more : List X) (x : X) → put (y ∷ more) x ≡ match_ordering (cmp (key x) (key y)) (x ∷ y ∷ more) (x ∷ more) (y ∷ put more x)) where
  put_is : (ys : List X) (x : X) → put ys x ≡ placed key ys x
  put_is [] x = first x
  put_is (y ∷ more) x = next y more x ∙ ap (λ z. match_ordering (cmp (key x) (key y)) (x ∷ y ∷ more) (x ∷ more) (y ∷ z)) (put_is more x)

  pub placed-by : (ys xs : List X) → fold put ys xs ≡ fold (placed key) ys xs
  placed-by ys [] = refl
  placed-by ys (x ∷ xs) = ap (λ z. fold put z xs) (put_is ys x) ∙ placed-by (placed key ys x) xs

-- each item has a property
abbrev pub Each : {X : Type 0} → (X → Type 0) → List X → Type 0
Each P [] = Unit {0}
Each P (x ∷ xs) = P x × Each P xs

pub each-at : {X : Type 0} (P : X → Type 0) (xs : List X) → Each P xs → (n : ℕ) (x : X) → slice_get xs n ≡ Some x → P x
each-at P [] h n x at = cc
each-at P (y ∷ xs) h zero x at = let is : y ≡ x = cc in subst P is h.0
each-at P (y ∷ xs) h (suc n) x at = each-at P xs h.1 n x at

module _ {X : Type 0} (key : X → List ℕ) (P : X → Type 0) where
  placed_each : (ys : List X) (x : X) → Each P ys → P x → Each P (placed key ys x)
  placed_each [] x h p = (p, tt)
  placed_each (y ∷ more) x h p = by (cmp (key x) (key y)) (placed_each more x h.1 p) where
    by : (o : Ordering) → Each P (placed key more x) → Each P (match_ordering o (x ∷ y ∷ more) (x ∷ more) (y ∷ placed key more x))
    by Less rest = (p, (h.0, h.1))
    by Equal rest = (p, h.1)
    by Greater rest = (h.0, rest)

  pub all-each : (ys xs : List X) → Each P ys → Each P xs → Each P (fold (placed key) ys xs)
  all-each ys [] h k = h
  all-each ys (x ∷ xs) h k = all-each (placed key ys x) xs (placed_each ys x h k.0) k.1
