use Rattle.std.proofs.Common.{◌≡◌, map, take, true, string_bytes}
use Rattle.std.specs.List.{flat_map}
use Rattle.compat_judge.specs.Seen.{seen}
use Rattle.tree_commands.specs.Judged.{break_line}
use Rattle.tree_commands.proofs.judging.judge_lines.Given as goal

-- the text has the lines of the first rows
abbrev pub invariant-loop-row : goal.invariant-loop-row
invariant-loop-row l = l.text.is_whole ≡ true → string_bytes l.text.text ≡ flat_map break_line (map seen (take l.row-index l.rows))
