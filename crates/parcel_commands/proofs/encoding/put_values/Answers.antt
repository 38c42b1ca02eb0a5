use Rattle.std.proofs.Common.{length, drop, map, ◌+◌, ap, sym, ◌∙◌, arith, length-append}
use Rattle.aidl_values.specs.View.{view}
use Rattle.parcel_words.specs.Written.{with_bytes}
use Rattle.parcel_words.proofs.lemmas.Appends.{with_more}
use Rattle.wire_model.specs.Spell.{spell}
use Rattle.parcel_commands.specs.Encode.{spell_values}
use Rattle.parcel_commands.proofs.Planned.{as_many, next}
use Rattle.parcel_commands.proofs.encoding.put_values.Goals as goal

pub bounds-ids-i : goal.bounds-ids-i
bounds-ids-i c =
    let many = as_many c.args._schema.now.decls c.args._types.now c.args.plans.now c.requires.planned in
    omega (arith, many, ap length c.as_slice-ids.ensures, c.loop-i.invariant.same, c.loop-i-test.true)

pub put_value-requires : goal.put_value-requires
put_value-requires c =
    let n = next c.args._schema.now.decls c.args.plans.now c.args._types.now c.args.values.now c.as_slice-ids.result.now (record { 0 = 0 }) c.loop-i.i c.index-values-i.result
    c.requires.planned c.as_slice-ids.ensures c.loop-i.invariant.same c.loop-i-test.true c.index-values-i.is c.loop-i.invariant.typed in
    let first = spell c.args._schema.now.decls n.ty (view c.index-values-i.result) in
    let rest = spell_values c.args._schema.now.decls (drop (c.loop-i.i + 1) c.args._types.now) (map view (drop (c.loop-i.i + 1) c.args.values.now)) in
    (c.args._schema.now.decls, n.ty, n.is, n.fits, omega (arith, c.loop-i.invariant.small, ap length n.spelled, length-append first rest), omega (arith, c.loop-i.invariant.room, ap length n.spelled, length-append first rest))

pub loop-i-preserved : goal.loop-i-preserved
loop-i-preserved c =
    let n = next c.args._schema.now.decls c.args.plans.now c.args._types.now c.args.values.now c.as_slice-ids.result.now (record { 0 = 0 }) c.loop-i.i c.index-values-i.result
    c.requires.planned c.as_slice-ids.ensures c.loop-i.invariant.same c.loop-i-test.true c.index-values-i.is c.loop-i.invariant.typed in
    let first = spell c.args._schema.now.decls n.ty (view c.index-values-i.result) in
    let rest = spell_values c.args._schema.now.decls (drop (c.loop-i.i + 1) c.args._types.now) (map view (drop (c.loop-i.i + 1) c.args.values.now)) in
    let one = c.put_value.ensures c.args._schema.now.decls n.ty n.is n.fits in
    record {
      same = c.loop-i.invariant.same;
      typed = n.typed;
      small = omega (arith, c.loop-i.invariant.small, ap length n.spelled, length-append first rest);
      room = omega (arith, c.loop-i.invariant.room, ap length n.spelled, length-append first rest, ap (λ w. w.room) one);
      all = ap (λ w. with_bytes w rest) one ∙ with_more c.loop-i.to first rest ∙ ap (λ b. with_bytes c.loop-i.to b) (sym n.spelled) ∙ c.loop-i.invariant.all;
    }
