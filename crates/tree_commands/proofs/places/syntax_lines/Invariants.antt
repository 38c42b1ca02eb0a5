use Rattle.std.proofs.Common.{◌≡◌, take, true, string_bytes}
use Rattle.tree_commands.specs.Faults.{AreSyntaxLines}
use Rattle.tree_commands.proofs.places.syntax_lines.Given as goal

-- the text has the lines of the first files
abbrev pub invariant-loop-number : goal.invariant-loop-number
invariant-loop-number l = l.text.is_whole ≡ true → AreSyntaxLines l.root l.files (take l.number-index l.numbers) (string_bytes l.text.text)
