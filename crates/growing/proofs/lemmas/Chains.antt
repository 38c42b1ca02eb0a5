-- Pieces that are added one after the other.
use Rattle.std.proofs.Common.{ℕ, List, [], ◌++◌, ◌∙◌, ap, sym, append_assoc, append-nil}
use Rattle.growing.specs.declared.text.GrowingText.{GrowingText}
use Rattle.growing.specs.Grows.{Grows}

-- a text grows by one piece and then by another
pub both_grow : (a b c : GrowingText) (p q : List ℕ) → Grows a b p → Grows b c q → Grows a c (p ++ q)
both_grow a b c p q first second whole =
    let later = second whole in
    let sooner = first later.0 in
    (sooner.0, later.1 ∙ ap (λ s. s ++ q) sooner.1 ∙ append_assoc _ p q)

-- a text that is left as it is grows by nothing
pub nothing_grows : (a : GrowingText) → Grows a a []
nothing_grows a whole = (whole, sym (append-nil _))
