use Rattle.std.proofs.Common.{refl, sym, ap}
use Rattle.aidl_schema.specs.declared.schema.Field.{Field}
use Rattle.json_writing.specs.steps.Places.{Placed}
use Rattle.json_writing.proofs.Rows.{lies_next, went_on}
use Rattle.json_writing.proofs.members.in_order.Goals as goal

pub bounds-fields-place : goal.bounds-fields-place
bounds-fields-place c =
    let e : Placed = (c.in-Some.name.now, c.in-Some.place.now) in
    lies_next c.args.fields.now c.loop-name.name-iterator c.next.new.self e c.in-Some.ensures.steps c.loop-name.invariant.2.2

pub loop-name-preserved : goal.loop-name-preserved
loop-name-preserved c =
    let e : Placed = (c.in-Some.name.now, c.in-Some.place.now) in (
      tt,
      tt,
      went_on c.args.fields.now c.loop-name.row.items c.push.new.self.items c.loop-name.later c.loop-name.name-iterator c.next.new.self e c.index-fields-place.result _ c.in-Some.ensures.steps
          c.in_ok-push.ensures.items c.index-fields-place.is c.in_ok-key_of.ensures refl (ap (λ (f : Field). f.ty) (sym c.index-fields-place.is)) c.loop-name.invariant.2,
    )
