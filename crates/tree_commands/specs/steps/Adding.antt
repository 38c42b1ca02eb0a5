-- What a step adds to a text that grows.
use Rattle.std.specs.Prelude.{◌≡◌, ℕ, ◌++◌, List, [], ◌∷◌, true, string_bytes}
use Rattle.aidl_base.specs.declared.source_file.SourceFile.{SourceFile}
use Rattle.growing.specs.declared.text.GrowingText.{GrowingText}
use Rattle.tree_commands.specs.Faults.{AreSyntaxLines}

-- if the text is whole it was so before, and it has more bytes of which this holds
abbrev pub Adds : (List ℕ → Type 0) → GrowingText → GrowingText → Type 0
Adds Is old new = new.is_whole ≡ true → (old.is_whole ≡ true)
    × (more : List ℕ) × Is more × (string_bytes new.text ≡ string_bytes old.text ++ more)

-- the line of the file with a number, behind the lines of any before it
abbrev pub AddsLine : List ℕ → List SourceFile → ℕ → GrowingText → GrowingText → Type 0
AddsLine root files n old new = new.is_whole ≡ true → (old.is_whole ≡ true)
    × ((before : List ℕ) → AreSyntaxLines root files before (string_bytes old.text)
    → AreSyntaxLines root files (before ++ n ∷ []) (string_bytes new.text))
