use Rattle.std.proofs.Common.{sym, ◌∙◌}
use Rattle.graph_cycles.proofs.marking.leads_to_root.Goals as goal
use Rattle.graph_cycles.proofs.Steps.{by_next, edge_at}

pub returns-then-is_set : goal.returns-then-is_set
returns-then-is_set c =
    let edge = edge_at c.args.edges.now c.args.node c.targets_of-target-items.result.now c.loop-target.target-index c.targets_of-target-items.ensures c.loop-target-test.true in
    λ h. by_next c.args.edges.now c.args.roots.now c.args.before.now c.args.node _ c.requires.marks edge
    (sym c.number_at.ensures ∙ c.if-number_at-root.true ∙ c.number_at-root.ensures) (sym c.is_set.ensures ∙ c.if-is_set.true)
