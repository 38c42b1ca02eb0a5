-- Tables of positions that are filled from the back.
use Rattle.std.proofs.Common.{◌≡◌, ℕ, ◌+◌, ◌<◌, Bool, cond, List, ◌∷◌, length, drop, get_or, Option, Some, sym, ap, ◌∙◌}
use Rattle.std.specs.List.{position_from}
use Rattle.std.proofs.lemmas.List.{drop_more}

-- an item goes in before those behind it, under its key
pub entered : {X : Type 0} (is_it : X → Bool) (xs : List X) (i j : ℕ) (x : X) (b : Bool) (now old : Option ℕ) → i ≡ j + 1 → j < length xs → x ≡ get_or xs j x → b ≡ is_it x
    → now ≡ cond b (Some j) old → old ≡ position_from is_it i (drop i xs) → now ≡ position_from is_it j (drop j xs)
entered is_it xs i j x b now old next lt is test new h =
    let at : drop j xs ≡ x ∷ drop i xs = drop_more xs j x lt ∙ ap (λ y. y ∷ drop (j + 1) xs) (sym is) ∙ ap (λ k. x ∷ drop k xs) (sym next) in
    new ∙ ap (λ t. cond t (Some j) old) test
    ∙ ap (λ o. cond (is_it x) (Some j) o) (h ∙ ap (λ k. position_from is_it k (drop i xs)) next)
    ∙ sym (ap (position_from is_it j) at)
