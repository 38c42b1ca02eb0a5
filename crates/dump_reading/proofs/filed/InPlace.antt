-- What stands in the order of its keys stays so where it is put in that order.
use Rattle.std.proofs.Common.{◌≡◌, Bool, true, List, [], ◌∷◌, ◌++◌, map, ℕ, fold, Ordering, Less, Equal, Greater, nat_cmp, is_lt, refl, sym, ap, ◌∙◌, append_assoc}
use Rattle.std.specs.Cmp.Lexicographic.{slice_cmp}
use Rattle.std.specs.List.{list_all}
use Rattle.std.specs.Ordering.{match_ordering, ordering_reverse}
use Rattle.std.proofs.lemmas.Cmp.{nat_list_cmp_total}
use Rattle.std.proofs.lemmas.Bool.{and_parts, and_from}
use Rattle.aidl_schema.specs.Names.{are_ascending, is_before}
use Rattle.tree_schema.proofs.lemmas.walked.Placed.{placed}

less_is : (o : Ordering) → is_lt o ≡ true → o ≡ Less
less_is Less e = refl
less_is Equal e = cc
less_is Greater e = cc

module _ {X : Type 0} (key : X → List ℕ) where
  -- behind all others
  last_placed : (ys : List X) (x : X) → list_all (λ y. is_before (key y) (key x)) ys ≡ true → placed key ys x ≡ ys ++ x ∷ []
  last_placed [] x h = refl
  last_placed (y ∷ ys) x h =
      let two = and_parts (is_before (key y) (key x)) (list_all (λ y. is_before (key y) (key x)) ys) h in
      let turned : slice_cmp nat_cmp (key x) (key y) ≡ Greater = nat_list_cmp_total.antisymm (key x) (key y) ∙ ap ordering_reverse (less_is (slice_cmp nat_cmp (key y) (key x)) two.0) in
      ap (λ o. match_ordering o (x ∷ y ∷ ys) (x ∷ ys) (y ∷ placed key ys x)) turned ∙ ap (λ zs. y ∷ zs) (last_placed ys x two.1)

  one_of : (p : List ℕ → Bool) (ys : List X) (x : X) (xs : List X) → list_all p (map key (ys ++ x ∷ xs)) ≡ true → p (key x) ≡ true
  one_of p [] x xs h = (and_parts (p (key x)) (list_all p (map key xs)) h).0
  one_of p (y ∷ ys) x xs h = one_of p ys x xs (and_parts (p (key y)) (list_all p (map key (ys ++ x ∷ xs))) h).1

  front_before : (ys : List X) (x : X) (xs : List X) → are_ascending (map key (ys ++ x ∷ xs)) ≡ true → list_all (λ y. is_before (key y) (key x)) ys ≡ true
  front_before [] x xs h = refl
  front_before (y ∷ ys) x xs h =
      let two = and_parts (list_all (λ z. is_before (key y) z) (map key (ys ++ x ∷ xs))) (are_ascending (map key (ys ++ x ∷ xs))) h in
      and_from (is_before (key y) (key x)) (list_all (λ y. is_before (key y) (key x)) ys) (one_of (λ z. is_before (key y) z) ys x xs two.0) (front_before ys x xs two.1)

  all_placed : (ys xs : List X) → are_ascending (map key (ys ++ xs)) ≡ true → fold (placed key) ys xs ≡ ys ++ xs
  all_placed ys [] h = sym (nil ys) where
    nil : (zs : List X) → zs ++ [] ≡ zs
    nil [] = refl
    nil (z ∷ zs) = ap (λ ws. z ∷ ws) (nil zs)
  all_placed ys (x ∷ xs) h =
      let moved : (ys ++ x ∷ []) ++ xs ≡ ys ++ x ∷ xs = append_assoc ys (x ∷ []) xs in
      ap (λ zs. fold (placed key) zs xs) (last_placed ys x (front_before ys x xs h))
      ∙ all_placed (ys ++ x ∷ []) xs (ap (λ zs. are_ascending (map key zs)) moved ∙ h) ∙ moved

  pub stays : (xs : List X) → are_ascending (map key xs) ≡ true → fold (placed key) [] xs ≡ xs
  stays xs h = all_placed [] xs h
