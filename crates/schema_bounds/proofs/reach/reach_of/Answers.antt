use Rattle.std.proofs.Common.{◌∙◌}
use Rattle.schema_bounds.proofs.lemmas.Chains.{inside, on_cycle, reach}
use Rattle.schema_bounds.proofs.reach.reach_of.Goals as goal

pub reaching-requires-clause-inside : goal.reaching-requires-clause-inside
reaching-requires-clause-inside c = inside c.args.decls.now c.deref-2.result.now (c.deref-2.ensures.value ∙ c.in_ok-edges.ensures)

pub returns-clause-holds : goal.returns-clause-holds
returns-clause-holds c = on_cycle c.args.decls.now c.deref.result.now (c.deref.ensures.value ∙ c.in_ok-edges.ensures) c.in_ok-found.found.on.items c.in_ok-found.ensures.exact

pub returns-clause-reaches : goal.returns-clause-reaches
returns-clause-reaches c = reach c.args.decls.now c.deref-2.result.now (c.deref-2.ensures.value ∙ c.in_ok-edges.ensures) c.in_ok-reaches.reaches.items c.in_ok-reaches.ensures
