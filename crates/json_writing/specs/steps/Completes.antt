-- A text of which a part is still to come.
use Rattle.std.specs.Prelude.{◌≡◌, ℕ, List, ◌++◌, true, string_bytes}
use Rattle.growing.specs.declared.text.GrowingText.{GrowingText}

-- if the text is whole it was so at the start, and with what is left it has all of these bytes more
abbrev pub Completes : GrowingText → GrowingText → List ℕ → List ℕ → Type 0
Completes start now rest all = now.is_whole ≡ true → (start.is_whole ≡ true) × (string_bytes now.text ++ rest ≡ string_bytes start.text ++ all)
