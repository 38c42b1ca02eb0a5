-- The text of one letter.
use Rattle.std.proofs.Common.{◌≡◌, ℕ, List, refl, ap, ◌∙◌}
use Rattle.std.specs.Prelude.{codes}
use Rattle.std.specs.Str.{chars}

pub letter_chars : (b : List ℕ) → b ≡ codes "a" → chars b ≡ codes "a"
unfolding chars
letter_chars b e = ap chars e ∙ refl
