use Rattle.std.proofs.Common.{subst}
use Rattle.marshal_plans.specs.Standing.{IsOf}
use Rattle.stub_dispatch.specs.steps.Planned.{TypeOf}
use Rattle.stub_dispatch.proofs.planned_type.PlannedType.length.Goals as goal

pub spelled_length-requires : goal.spelled_length-requires
spelled_length-requires c =
    let of = subst (λ (t : TypeOf). IsOf c.self.inside.plans.now c.self.inside.id t.decls t.ty) c.self.view_is c.self.invariant in
    (c.args.self.now.decls, c.args.self.now.ty, of, c.requires)

pub returns : goal.returns
returns c =
    let of = subst (λ (t : TypeOf). IsOf c.self.inside.plans.now c.self.inside.id t.decls t.ty) c.self.view_is c.self.invariant in
    c.spelled_length.ensures c.args.self.now.decls c.args.self.now.ty of c.requires
