-- Tests: what a test that passes, or fails, says of its parts.
use Rattle.std.proofs.Common.{◌≡◌, ℕ, zero, suc, ◌+◌, Bool, true, false, not, ◌&&◌, ◌||◌, List, [], ◌∷◌, Some, slice_get, refl, subst, arith}
use Rattle.std.specs.List.{list_all, enumerate_from}

pub both : (a b : Bool) → (a && b) ≡ true → (a ≡ true) × (b ≡ true)
both true true e = (refl, refl)
both true false e = cc
both false b e = cc

pub and_false : (b : Bool) → (b && false) ≡ false
and_false true = refl
and_false false = refl

pub neither : (a b : Bool) → (a || b) ≡ false → (a ≡ false) × (b ≡ false)
neither true b e = cc
neither false b e = (refl, e)

pub flipped : (b : Bool) → not b ≡ true → b ≡ false
flipped true e = cc
flipped false e = refl

pub all_at : {X : Type 0} (p : X → Bool) (xs : List X) (n : ℕ) (x : X) → list_all p xs ≡ true → slice_get xs n ≡ Some x → p x ≡ true
all_at p [] n x all e = cc
all_at p (y ∷ xs) zero x all e = let same : y ≡ x = cc in subst (λ z. p z ≡ true) same (both (p y) (list_all p xs) all).0
all_at p (y ∷ xs) (suc n) x all e = all_at p xs n x (both (p y) (list_all p xs) all).1 e

pub all_numbered : {X : Type 0} (p : ℕ → X → Bool) (k : ℕ) (xs : List X) (n : ℕ) (x : X) → list_all (λ y. p y.0 y.1) (enumerate_from k xs) ≡ true
    → slice_get xs n ≡ Some x → p (k + n) x ≡ true
all_numbered p k [] n x all e = all_at (λ y. p (k + n) y) [] n x refl e
all_numbered p k (y ∷ xs) zero x all e =
    let same : y ≡ x = cc in
    let here : p k x ≡ true = subst (λ z. p k z ≡ true) same (both (p k y) (list_all (λ z. p z.0 z.1) (enumerate_from (k + 1) xs)) all).0 in
    let at : k ≡ k + zero = omega arith in
    subst (λ j. p j x ≡ true) at here
all_numbered p k (y ∷ xs) (suc n) x all e =
    let later : p ((k + 1) + n) x ≡ true = all_numbered p (k + 1) xs n x (both (p k y) (list_all (λ z. p z.0 z.1) (enumerate_from (k + 1) xs)) all).1 e in
    let at : (k + 1) + n ≡ k + suc n = omega arith in
    subst (λ j. p j x ≡ true) at later
