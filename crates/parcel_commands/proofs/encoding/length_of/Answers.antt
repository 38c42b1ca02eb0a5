use Rattle.std.proofs.Common.{◌+◌, length, drop, map, ap, arith, length-append}
use Rattle.aidl_values.specs.View.{view}
use Rattle.wire_model.specs.Spell.{spell}
use Rattle.parcel_commands.specs.Encode.{spell_values}
use Rattle.parcel_commands.proofs.Planned.{as_many, next}
use Rattle.parcel_commands.proofs.encoding.length_of.Goals as goal

pub bounds-ids-i : goal.bounds-ids-i
bounds-ids-i c =
    let many = as_many c.args._schema.now.decls c.args._types.now c.args.plans.now c.requires.planned in
    omega (arith, many, ap length c.as_slice-ids.ensures, c.loop-i.invariant.same, c.loop-i-test.true)

pub spelled_length-length-requires : goal.spelled_length-length-requires
spelled_length-length-requires c =
    let n = next c.args._schema.now.decls c.args.plans.now c.args._types.now c.args.values.now c.as_slice-ids.result.now (record { 0 = 0 }) c.loop-i.i c.index-values-i.result
    c.requires.planned c.as_slice-ids.ensures c.loop-i.invariant.same c.loop-i-test.true c.index-values-i.is c.loop-i.invariant.typed in
    (c.args._schema.now.decls, n.ty, n.is, n.fits)

pub loop-i-preserved : goal.loop-i-preserved
loop-i-preserved c =
    let n = next c.args._schema.now.decls c.args.plans.now c.args._types.now c.args.values.now c.as_slice-ids.result.now (record { 0 = 0 }) c.loop-i.i c.index-values-i.result
    c.requires.planned c.as_slice-ids.ensures c.loop-i.invariant.same c.loop-i-test.true c.index-values-i.is c.loop-i.invariant.typed in
    let rest = spell_values c.args._schema.now.decls (drop (c.loop-i.i + 1) c.args._types.now) (map view (drop (c.loop-i.i + 1) c.args.values.now)) in
    let one = c.spelled_length-length.ensures c.args._schema.now.decls n.ty n.is n.fits in
    record {
      fits = omega (arith, one, c.loop-i.invariant.fits);
      same = c.loop-i.invariant.same;
      typed = n.typed;
      sum = omega (arith, one, c.loop-i.invariant.fits, c.loop-i.invariant.sum, ap length n.spelled, length-append (spell c.args._schema.now.decls n.ty (view c.index-values-i.result)) rest);
    }

pub overflow_add-length : goal.overflow_add-length
overflow_add-length c =
    let n = next c.args._schema.now.decls c.args.plans.now c.args._types.now c.args.values.now c.as_slice-ids.result.now (record { 0 = 0 }) c.loop-i.i c.index-values-i.result
    c.requires.planned c.as_slice-ids.ensures c.loop-i.invariant.same c.loop-i-test.true c.index-values-i.is c.loop-i.invariant.typed in
    let one = c.spelled_length-length.ensures c.args._schema.now.decls n.ty n.is n.fits in
    omega (arith, one, c.loop-i.invariant.fits)
