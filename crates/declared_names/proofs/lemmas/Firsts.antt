-- The first item of a list that passes a test.
use Rattle.std.proofs.Common.{◌≡◌, ◌<◌, ◌≤◌, ◌+◌, ℕ, zero, suc, Bool, true, false, cond, ◌||◌, nat_lt, List, [], ◌∷◌, length, take, get_or, Some, None, refl, sym, ◌∙◌, ap, arith}
use Rattle.std.specs.List.{list_any, position_from}
use Rattle.std.proofs.lemmas.Bool.Decides.{nat_tests}

-- what is found stands at the first place or behind it
pub found_from : {X : Type 0} (p : X → Bool) (k : ℕ) (xs : List X) (r : ℕ) → position_from p k xs ≡ Some r → k ≤ r
found_from p k [] r e = cc
found_from p k (x ∷ xs) r e = go (p x) (found_from p (k + 1) xs r) e where
  go : (b : Bool) → (position_from p (k + 1) xs ≡ Some r → k + 1 ≤ r) → cond b (Some k) (position_from p (k + 1) xs) ≡ Some r → k ≤ r
  go true h e = let q : k ≡ r = cc in omega arith
  go false h e = let q = h e in omega arith

-- one of the first passes a test exactly where the first that does is among them
pub below-some : {X : Type 0} (p : X → Bool) (k : ℕ) (xs : List X) (i r : ℕ) → position_from p k xs ≡ Some r → nat_lt r (k + i) ≡ list_any p (take i xs)
below-some p k [] i r e = cc
below-some p k (x ∷ xs) zero r e = let h = found_from p k (x ∷ xs) r e in grind (arith, nat_tests, h)
below-some p k (x ∷ xs) (suc i) r e = go (p x) (below-some p (k + 1) xs i r) e where
  go : (b : Bool) → (position_from p (k + 1) xs ≡ Some r → nat_lt r (k + 1 + i) ≡ list_any p (take i xs)) → cond b (Some k) (position_from p (k + 1) xs) ≡ Some r
      → nat_lt r (k + suc i) ≡ (b || list_any p (take i xs))
  go true h e = let q : k ≡ r = cc in grind (arith, nat_tests, q)
  go false h e = let s : k + suc i ≡ k + 1 + i = omega arith in ap (nat_lt r) s ∙ h e

pub below-none : {X : Type 0} (p : X → Bool) (k : ℕ) (xs : List X) (i : ℕ) → position_from p k xs ≡ None → false ≡ list_any p (take i xs)
below-none p k [] zero e = refl
below-none p k [] (suc i) e = refl
below-none p k (x ∷ xs) zero e = refl
below-none p k (x ∷ xs) (suc i) e = go (p x) (below-none p (k + 1) xs i) e where
  go : (b : Bool) → (position_from p (k + 1) xs ≡ None → false ≡ list_any p (take i xs)) → cond b (Some k) (position_from p (k + 1) xs) ≡ None
      → false ≡ (b || list_any p (take i xs))
  go true h e = cc
  go false h e = h e

pub among-some : {X : Type 0} (p : X → Bool) (xs : List X) (i r : ℕ) → Some r ≡ position_from p 0 xs → nat_lt r i ≡ list_any p (take i xs)
among-some p xs i r e = let z : i ≡ 0 + i = omega arith in ap (nat_lt r) z ∙ below-some p 0 xs i r (sym e)

pub among-none : {X : Type 0} (p : X → Bool) (xs : List X) (i : ℕ) → None ≡ position_from p 0 xs → false ≡ list_any p (take i xs)
among-none p xs i e = below-none p 0 xs i (sym e)

-- what is found passes the test
pub found-passes : {X : Type 0} (p : X → Bool) (k : ℕ) (xs : List X) (r : ℕ) (x : X) → position_from p k xs ≡ Some (k + r) → x ≡ get_or xs r x → (r < length xs) × (p x ≡ true)
found-passes p k [] r x e is = cc
found-passes p k (y ∷ ys) r x e is = go (p y) refl (λ j i z. found-passes p (k + 1) ys j x z i) e where
  first : (j : ℕ) → p y ≡ true → x ≡ get_or (y ∷ ys) j x → j ≡ 0 → (j < length (y ∷ ys)) × (p x ≡ true)
  first zero q i z = (omega arith, ap p i ∙ q)
  first (suc j) q i z = absurd (omega arith)

  later : (j : ℕ) → ((j : ℕ) → x ≡ get_or ys j x → position_from p (k + 1) ys ≡ Some (k + 1 + j) → (j < length ys) × (p x ≡ true)) → x ≡ get_or (y ∷ ys) j x → position_from p (k + 1) ys ≡ Some (k + j)
      → (j < length (y ∷ ys)) × (p x ≡ true)
  later zero rec i z = let f = found_from p (k + 1) ys (k + 0) z in absurd (omega arith)
  later (suc j) rec i z = let s : k + suc j ≡ k + 1 + j = omega arith in let w = rec j i (z ∙ ap Some s) in (omega (arith, w.0), w.1)

  go : (b : Bool) → p y ≡ b → ((j : ℕ) → x ≡ get_or ys j x → position_from p (k + 1) ys ≡ Some (k + 1 + j) → (j < length ys) × (p x ≡ true)) → cond b (Some k) (position_from p (k + 1) ys) ≡ Some (k + r)
      → (r < length (y ∷ ys)) × (p x ≡ true)
  go true q rec h = first r q is (let s : k ≡ k + r = cc in omega arith)
  go false q rec h = later r rec is h

-- what is found stands at no later place than another that passes the test
pub found-first : {X : Type 0} (p : X → Bool) (k : ℕ) (xs : List X) (i : ℕ) (x : X) → i < length xs → x ≡ get_or xs i x → p x ≡ true → (r : ℕ) × (position_from p k xs ≡ Some r) × (r ≤ k + i)
found-first p k [] i x lt is h = absurd (omega arith)
found-first p k (y ∷ ys) zero x lt is h = (k, ap (λ b. cond b (Some k) (position_from p (k + 1) ys)) (ap p (sym is) ∙ h), omega arith)
found-first p k (y ∷ ys) (suc i) x lt is h =
    let w = found-first p (k + 1) ys i x (omega arith) is h in
    go (p y) w.0 w.1 w.2 where
      go : (b : Bool) (r : ℕ) → position_from p (k + 1) ys ≡ Some r → r ≤ k + 1 + i → (r' : ℕ) × (cond b (Some k) (position_from p (k + 1) ys) ≡ Some r') × (r' ≤ k + suc i)
      go true r e l = (k, refl, omega arith)
      go false r e l = (r, e, omega arith)

-- one of the first passes a test
pub any-at : {X : Type 0} (t : X → Bool) (xs : List X) (i j : ℕ) (x : X) → j < i → j < length xs → x ≡ get_or xs j x → t x ≡ true → list_any t (take i xs) ≡ true
any-at t [] i j x lt l is h = absurd (omega arith)
any-at t (y ∷ ys) zero j x lt l is h = absurd (omega arith)
any-at t (y ∷ ys) (suc i) zero x lt l is h = ap (λ b. b || list_any t (take i ys)) (ap t (sym is) ∙ h)
any-at t (y ∷ ys) (suc i) (suc j) x lt l is h = or-true (t y) (list_any t (take i ys)) (any-at t ys i j x (omega arith) (omega arith) is h) where
  or-true : (a b : Bool) → b ≡ true → (a || b) ≡ true
  or-true true b e = refl
  or-true false b e = e

-- tests that are the same find the same
pub position-same : {X : Type 0} (p q : X → Bool) → ((x : X) → p x ≡ q x) → (k : ℕ) (xs : List X) → position_from p k xs ≡ position_from q k xs
position-same p q h k [] = refl
position-same p q h k (x ∷ xs) = rw (h x, position-same p q h (k + 1) xs) refl
