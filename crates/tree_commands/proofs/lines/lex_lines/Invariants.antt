use Rattle.std.proofs.Common.{◌≡◌, take, true, string_bytes}
use Rattle.std.specs.List.{flat_map}
use Rattle.tree_commands.specs.Lines.{lex_line}
use Rattle.tree_commands.proofs.lines.lex_lines.Given as goal

-- the text has the lines of the first rows
abbrev pub invariant-loop-row : goal.invariant-loop-row
invariant-loop-row l = l.text.is_whole ≡ true → string_bytes l.text.text ≡ flat_map (lex_line l.root l.files) (take l.row-index l.rows)
