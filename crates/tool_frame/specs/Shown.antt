-- Bytes in a line of text (own).
use Rattle.std.specs.Prelude.{ℕ, List, [], ◌∷◌, codes}
use Rattle.hex.specs.Hex.{encode_lower}

-- two lower-case hexadecimal digits a byte, and `-` for no bytes, so that it is always one word
abbrev pub shown : List ℕ → List ℕ
shown [] = codes "-"
shown (b ∷ bytes) = encode_lower (b ∷ bytes)
