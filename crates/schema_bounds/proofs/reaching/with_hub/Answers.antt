use Rattle.std.proofs.Common.{◌++◌, ◌∙◌, ap, length}
use Rattle.graph_cycles.specs.Paths.{flag, targets}
use Rattle.schema_bounds.specs.steps.Hubs.{hub_if}
use Rattle.schema_bounds.proofs.Lists.{pushed}
use Rattle.schema_bounds.proofs.reaching.with_hub.Goals as goal

pub loop-node-preserved : goal.loop-node-preserved
loop-node-preserved c =
    pushed (λ n. targets c.args.edges.now n ++ hub_if (flag c.args.on.now n) (length c.args.edges.now)) c.loop-node.node c.loop-node.rows.items _ c.in_ok-with_edge.field-0
    c.loop-node.invariant
    (c.in_ok-with_edge.ensures ∙ ap (λ row. row ++ hub_if c.is_set.result (length c.args.edges.now)) c.targets_of.ensures
    ∙ ap (λ b. targets c.args.edges.now c.loop-node.node ++ hub_if b (length c.args.edges.now)) c.is_set.ensures) c.in_ok-push.ensures.items
