use Rattle.std.proofs.Common.{◌≡◌, ◌+◌, ◌-◌, ◌<◌, ◌==◌, length, arith}
use Rattle.std.specs.Prelude.{nat_eq}
use Rattle.indexmap.specs.IndexMap.{get}
use Rattle.aidl_schema.specs.declared.schema.Method.{Method}
use Rattle.value_views.proofs.lemmas.Tables.{entered}
use Rattle.witness_calls.proofs.Tables.{same_code}
use Rattle.witness_calls.proofs.named_decl.methods_by_id.Goals as goal

pub loop-i-preserved : goal.loop-i-preserved
loop-i-preserved c = λ n.
    let ms = c.args.methods.now in
    let m = c.index-methods-i.result in
    let next : c.loop-i.i ≡ c.loop-i.i - 1 + 1 = omega arith in
    let lt : c.loop-i.i - 1 < length ms = omega arith in
    entered (λ (w : Method). w.id + 1 == n + 1) ms c.loop-i.i (c.loop-i.i - 1) m (nat_eq m.id n) _ (get nat_eq c.loop-i.table n) next lt c.index-methods-i.is
    (same_code m.id n) (c.in_ok-insert.ensures.updates.0 n) (c.loop-i.invariant n)
