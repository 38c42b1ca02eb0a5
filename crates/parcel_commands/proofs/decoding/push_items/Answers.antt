use Rattle.std.proofs.Common.{length, ap, sym, subst, arith, get_or}
use Rattle.aidl_schema.specs.Types.{no_type}
use Rattle.marshal_plans.specs.declared.plans.PlanId.{PlanId}
use Rattle.marshal_plans.specs.Standing.{IsOf}
use Rattle.parcel_commands.proofs.Planned.{as_many, planned_at}
use Rattle.parcel_commands.proofs.decoding.push_items.Goals as goal

pub bounds-ids-i : goal.bounds-ids-i
bounds-ids-i c =
    let many = as_many c.args.decoder.now.schema.now.decls c.args.types.now c.args.decoder.now.plans.now c.requires in
    omega (arith, many, ap length c.as_slice-ids.ensures, c.loop-i-test.true)

pub push_item-requires : goal.push_item-requires
push_item-requires c =
    let S = c.args.decoder.now.schema.now.decls in
    let none : PlanId = record { 0 = 0 } in
    let t = get_or c.args.types.now c.loop-i.i no_type in
    subst (λ ids. IsOf c.args.decoder.now.plans.now (get_or ids c.loop-i.i none) S t) (sym c.as_slice-ids.ensures)
    (planned_at S c.args.types.now c.args.decoder.now.plans.now c.loop-i.i no_type none c.requires c.loop-i-test.true)
