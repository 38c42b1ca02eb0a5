-- The line of an item, piece by piece.
use Rattle.std.proofs.Common.{ℕ, List, ◌++◌, codes, sym, ◌∙◌, subst, append_assoc}
use Rattle.growing.proofs.lemmas.Chains.{both_grow}
use Rattle.growing.specs.declared.text.GrowingText.{GrowingText}
use Rattle.growing.specs.Grows.{Grows}
use Rattle.tool_frame.specs.Answer.{line}

pub item_grown : (offset bytes path kind : List ℕ) (a b c d e f g : GrowingText) → Grows a b offset → Grows b c (codes " ") → Grows c d bytes → Grows d e (codes " ") → Grows e f path
    → Grows f g (codes " " ++ line kind) → Grows a g (line (offset ++ codes " " ++ bytes ++ codes " " ++ path ++ codes " " ++ kind))
item_grown offset bytes path kind a b c d e f g one two three four five six =
    let blank = codes " " in
    let front = offset ++ blank ++ bytes ++ blank ++ path in
    subst (λ z. Grows a g z) (sym (append_assoc front blank (line kind)) ∙ sym (append_assoc (front ++ blank) kind (codes "\n")))
    (both_grow a f g front (blank ++ line kind)
    (both_grow a e f (offset ++ blank ++ bytes ++ blank) path
    (both_grow a d e (offset ++ blank ++ bytes) blank
    (both_grow a c d (offset ++ blank) bytes (both_grow a b c offset blank one two) three) four) five) six)
