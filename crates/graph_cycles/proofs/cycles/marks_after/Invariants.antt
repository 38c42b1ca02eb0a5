use Rattle.graph_cycles.specs.Paths.{targets}
use Rattle.graph_cycles.specs.steps.Marks.{AfterRoots}
use Rattle.graph_cycles.proofs.cycles.marks_after.Given as goal

abbrev pub invariant-loop-node : goal.invariant-loop-node
invariant-loop-node l = AfterRoots (targets l.edges) l.roots l.marks.items
