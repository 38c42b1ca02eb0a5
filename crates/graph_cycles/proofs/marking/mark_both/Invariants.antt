use Rattle.graph_cycles.specs.Paths.{targets}
use Rattle.graph_cycles.specs.steps.Marks.{OnCycles}
use Rattle.graph_cycles.proofs.marking.mark_both.Given as goal

abbrev pub invariant-loop-node : goal.invariant-loop-node
invariant-loop-node l = OnCycles (targets l.edges) l.on
