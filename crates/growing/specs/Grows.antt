-- What a piece adds to a text that grows.
use Rattle.std.specs.Prelude.{◌≡◌, ℕ, List, ◌++◌, true, string_bytes}
use Rattle.growing.specs.declared.text.GrowingText.{GrowingText}

-- if the text is whole it was so before, and it has these bytes more
abbrev pub Grows : GrowingText → GrowingText → List ℕ → Type 0
Grows old new piece = new.is_whole ≡ true → (old.is_whole ≡ true) × (string_bytes new.text ≡ string_bytes old.text ++ piece)
