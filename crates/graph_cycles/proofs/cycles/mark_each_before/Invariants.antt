use Rattle.graph_cycles.specs.Paths.{targets}
use Rattle.graph_cycles.specs.steps.Marks.{BeforeRoots}
use Rattle.graph_cycles.proofs.cycles.mark_each_before.Given as goal

abbrev pub invariant-loop-node : goal.invariant-loop-node
invariant-loop-node l = BeforeRoots (targets l.edges) l.roots l.marks
