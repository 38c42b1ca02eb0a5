use Rattle.graph_cycles.proofs.cycles.certified_cycles.Goals as goal
use Rattle.graph_cycles.proofs.Steps.{certified}

pub returns-then-is_certified-clause-exact : goal.returns-then-is_certified-clause-exact
returns-then-is_certified-clause-exact c =
    certified c.args.edges.now c.deref-5.result.now c.in_ok-on.on.items c.deref-6.result.now c.in_ok-on.ensures.on c.deref-6.ensures.value (c.is_certified.ensures c.if-is_certified.true)
