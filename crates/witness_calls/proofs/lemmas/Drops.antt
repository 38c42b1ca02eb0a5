-- What is left of a list behind one of its items.
use Rattle.std.proofs.Common.{◌≡◌, ℕ, zero, suc, ◌+◌, ◌<◌, List, [], ◌∷◌, length, drop, get_or, sym, ap, ◌∙◌, arith}

dropped : {X : Type 0} (xs : List X) (j : ℕ) (x : X) → j < length xs → x ≡ get_or xs j x → drop j xs ≡ x ∷ drop (suc j) xs
dropped [] j x lt e = absurd (omega arith)
dropped (y ∷ xs) zero x lt e = ap (λ z. z ∷ xs) (sym e)
dropped (y ∷ xs) (suc j) x lt e = dropped xs j x (omega arith) e

pub drop_at : {X : Type 0} (xs : List X) (j : ℕ) (x : X) → j < length xs → x ≡ get_or xs j x → drop j xs ≡ x ∷ drop (j + 1) xs
drop_at xs j x lt e = let one : suc j ≡ j + 1 = omega arith in dropped xs j x lt e ∙ ap (λ k. x ∷ drop k xs) one
