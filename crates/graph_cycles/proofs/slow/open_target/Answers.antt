use Rattle.std.proofs.Common.{sym, ◌∙◌}
use Rattle.graph_cycles.proofs.slow.open_target.Goals as goal
use Rattle.graph_cycles.proofs.Steps.{join, one_edge}

pub returns-in-Some-unmarked_target-clause-some : goal.returns-in-Some-unmarked_target-clause-some
returns-in-Some-unmarked_target-clause-some c =
    let found = c.in-Some-unmarked_target.ensures.some in
    (join c.args.edges.now c.args.start c.loop-node.node _ (c.requires.marks c.loop-node.node (sym c.is_set.ensures ∙ c.if-is_set.true)) (one_edge c.args.edges.now c.loop-node.node _ found.0), found.1, found.2)
