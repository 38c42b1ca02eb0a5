use Rattle.std.proofs.Common.{◌≡◌, ◌+◌, take}
use Rattle.graph_cycles.specs.steps.Marks.{unmarked}
use Rattle.graph_cycles.proofs.slow.marked.Given as goal

-- of the flags so far, those that are set are counted
abbrev pub invariant-loop-mark : goal.invariant-loop-mark
invariant-loop-mark l = l.count + unmarked (take l.mark-index l.fn.marks) ≡ l.mark-index
