use Rattle.std.proofs.Common.{take}
use Rattle.tree_files.specs.steps.Standing.{Stands}
use Rattle.tree_files.proofs.parsing.found.Given as goal

-- what is found is that of the first files
abbrev pub invariant-loop-number : goal.invariant-loop-number
invariant-loop-number l = Stands (take l.number l.files) l.found
