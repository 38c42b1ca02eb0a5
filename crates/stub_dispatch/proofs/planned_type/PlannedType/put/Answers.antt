use Rattle.std.proofs.Common.{subst}
use Rattle.marshal_plans.specs.Standing.{IsOf}
use Rattle.stub_dispatch.specs.steps.Planned.{TypeOf}
use Rattle.stub_dispatch.proofs.planned_type.PlannedType.put.Goals as goal

pub put_value-requires : goal.put_value-requires
put_value-requires c =
    let of = subst (λ (t : TypeOf). IsOf c.self.inside.plans.now c.self.inside.id t.decls t.ty) c.self.view_is c.self.invariant in
    (c.args.self.now.decls, c.args.self.now.ty, of, c.requires.fits, c.requires.small, c.requires.room)

pub returns : goal.returns
returns c =
    let of = subst (λ (t : TypeOf). IsOf c.self.inside.plans.now c.self.inside.id t.decls t.ty) c.self.view_is c.self.invariant in
    c.put_value.ensures c.args.self.now.decls c.args.self.now.ty of c.requires.fits
