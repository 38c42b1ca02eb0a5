use Rattle.std.proofs.Common.{◌≡◌, map, take, true, string_bytes}
use Rattle.compat_judge.specs.Seen.{seen}
use Rattle.witness_command.specs.Entries.{AreEntries}
use Rattle.witness_command.proofs.entries.entry_lines.Given as goal

-- the text has the lines of the first rows
abbrev pub invariant-loop-row : goal.invariant-loop-row
invariant-loop-row l = l.text.is_whole ≡ true → AreEntries l.pair.old l.pair.new (map seen (take l.row-index l.rows)) (string_bytes l.text.text)
