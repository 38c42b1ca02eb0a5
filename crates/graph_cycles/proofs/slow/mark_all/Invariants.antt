use Rattle.graph_cycles.specs.Paths.{targets}
use Rattle.std.proofs.Common.{◌≡◌, length}
use Rattle.graph_cycles.specs.steps.Marks.{AfterNode, unmarked}
use Rattle.graph_cycles.proofs.slow.mark_all.Given as goal

abbrev pub invariant-loop-to : goal.invariant-loop-to
invariant-loop-to l = record { marked : AfterNode (targets l.edges) l.start l.marks; len : length l.marks ≡ length l.edges }

abbrev pub decreases-loop-to : goal.decreases-loop-to
decreases-loop-to l = unmarked l.marks
