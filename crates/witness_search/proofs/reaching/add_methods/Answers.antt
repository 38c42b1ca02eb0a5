use Rattle.std.proofs.Common.{◌<◌, ◌+◌, ◌++◌, length, drop, map, ap, ◌∙◌, arith}
use Rattle.compat_witness.specs.Reaching.{is_at, reaches}
use Rattle.aidl_schema.specs.declared.schema.Method.{Method}
use Rattle.witness_search.specs.Asked.{method_seen}
use Rattle.witness_search.specs.ReachTables.{row_at}
use Rattle.witness_search.specs.steps.Reached.{reached_from}
use Rattle.witness_calls.proofs.lemmas.Drops.{drop_at}
use Rattle.witness_search.proofs.Reaches.{next_method, put_one}
use Rattle.witness_search.proofs.reaching.add_methods.Goals as goal

pub loop-i-preserved : goal.loop-i-preserved
loop-i-preserved c = λ k lt.
    let i = c.loop-i.i in
    let methods = c.args.methods.now in
    let v = c.index-methods-i.result in
    let at = c.args.ends.now.interface in
    let test = λ (w : Method). reaches c.args.ends.now.client.now k c.args.ends.now.server.now at w in
    let row = row_at c.loop-i.rows k in
    let lies : i < length methods = omega arith in
    let within : k < length c.loop-i.rows = omega (arith, c.add.auto.rows, lt) in
    ap (λ xs. xs ++ reached_from (i + 1) test at (drop (i + 1) methods))
    (put_one row (row_at c.add.new.rows k) _ c.declaration_reached-number.result k (test v) (c.in_ok-add.ensures k within) (ap (is_at k) c.declaration_reached-number.ensures))
    ∙ next_method test at i methods v (map method_seen row) (drop_at methods i v lies c.index-methods-i.is) ∙ c.loop-i.invariant k within
