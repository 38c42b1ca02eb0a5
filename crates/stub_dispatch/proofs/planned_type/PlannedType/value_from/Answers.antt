use Rattle.std.proofs.Common.{subst}
use Rattle.marshal_plans.specs.Standing.{IsOf}
use Rattle.stub_dispatch.specs.steps.Planned.{TypeOf}
use Rattle.stub_dispatch.proofs.planned_type.PlannedType.value_from.Goals as goal

pub returns-clause-taken : goal.returns-clause-taken
returns-clause-taken c =
    let of = subst (λ (t : TypeOf). IsOf c.self.inside.plans.now c.self.inside.id t.decls t.ty) c.self.view_is c.self.invariant in
    c.value.ensures.taken c.args.self.now.decls c.args.self.now.ty of
