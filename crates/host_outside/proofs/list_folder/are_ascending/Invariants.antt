use Rattle.host_outside.proofs.Ascending.{Rise}
use Rattle.host_outside.proofs.list_folder.are_ascending.Given as goal

-- each path so far comes before the next one
abbrev pub invariant-loop-place : goal.invariant-loop-place
invariant-loop-place l = Rise l.paths l.place
