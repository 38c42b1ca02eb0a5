use Rattle.std.proofs.Common.{◌≡◌, length, drop, ap, arith}
use Rattle.witness_search.proofs.Reaches.{table_rows}
use Rattle.witness_search.proofs.reaching.reach_table.Goals as goal

pub returns : goal.returns
returns c = λ k.
    let items = c.in_ok-rows.rows.items in
    let slice = c.as_mut_slice.result.now in
    let new = c.add_all.new.rows in
    let whole : c.in_ok-rows.rows.len ≡ length new = omega (arith, c.add_all.auto.rows, c.as_mut_slice.ensures.len) in
    let many : length slice ≡ length c.args.client.now = omega (arith, ap length c.schema.ensures, ap length c.as_slice.ensures, ap length c.as_mut_slice.ensures.value, c.in_ok-rows.ensures.len) in
    let as_many : length new ≡ length c.args.client.now = omega (arith, many, c.add_all.auto.rows) in
    table_rows c.args.client.now c.args.server.now items slice new (drop (length new) items) c.in_ok-rows.rows.len k
    c.as_mut_slice.ensures.value whole as_many c.in_ok-rows.ensures.empty (λ lt. c.in_ok-add_all.ensures k (omega (arith, lt, many)))
