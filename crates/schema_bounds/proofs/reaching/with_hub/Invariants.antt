use Rattle.std.proofs.Common.{◌≡◌, ◌++◌, map, length}
use Rattle.std.specs.List.{range_with_len}
use Rattle.graph_cycles.specs.Paths.{flag, targets}
use Rattle.schema_bounds.specs.steps.Hubs.{hub_if}
use Rattle.schema_bounds.proofs.reaching.with_hub.Given as goal

abbrev pub invariant-loop-node : goal.invariant-loop-node
invariant-loop-node l = l.rows.items ≡ map (λ n. targets l.edges n ++ hub_if (flag l.on n) (length l.edges)) (range_with_len 0 l.node)
