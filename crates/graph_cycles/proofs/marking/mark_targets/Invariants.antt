use Rattle.graph_cycles.specs.Paths.{targets}
use Rattle.graph_cycles.specs.steps.Marks.{AfterRoots}
use Rattle.graph_cycles.proofs.marking.mark_targets.Given as goal

abbrev pub invariant-loop-target : goal.invariant-loop-target
invariant-loop-target l = AfterRoots (targets l.edges) l.roots l.after
