use Rattle.stub_dispatch.proofs.planned_type.PlannedType.opening_from.Goals as goal

pub opening_from-requires-clause-known : goal.opening_from-requires-clause-known
opening_from-requires-clause-known c = let is = c.self.invariant in is.2.of_schema c.self.inside.id.0 c.self.inside.ty is.3
