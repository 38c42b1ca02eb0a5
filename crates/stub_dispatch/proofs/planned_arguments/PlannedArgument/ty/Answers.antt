use Rattle.stub_dispatch.proofs.planned_arguments.PlannedArgument.ty.Goals as goal

pub argument-id-requires : goal.argument-id-requires
argument-id-requires c = c.self.invariant.there

pub new-requires : goal.new-requires
new-requires c = c.self.invariant.stands c.argument-id.result c.argument-id.ensures.stands
