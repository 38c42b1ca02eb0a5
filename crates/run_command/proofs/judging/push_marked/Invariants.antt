use Rattle.std.proofs.Common.{map, take}
use Rattle.compat_judge.specs.Seen.{seen}
use Rattle.growing.specs.Grows.{Grows}
use Rattle.run_command.specs.Running.{marked}
use Rattle.run_command.proofs.judging.push_marked.Given as goal

-- the text has the lines of the first rows more
abbrev pub invariant-loop-row : goal.invariant-loop-row
invariant-loop-row l = Grows l.fn.text l.text (marked l.mark (map seen (take l.row-index l.rows)))
