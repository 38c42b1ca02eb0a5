use Rattle.std.proofs.Common.{◌+◌, ◌<◌, ◌≤◌, ◌++◌, length, map, sym, ap, ◌∙◌, subst, append-nil, arith}
use Rattle.witness_search.specs.Asked.{method_seen}
use Rattle.witness_search.specs.ReachTables.{row_at}
use Rattle.witness_search.proofs.Reaches.{later_ones, no_more, one_more}
use Rattle.witness_search.proofs.reaching.add_all.Goals as goal

pub loop-i-preserved : goal.loop-i-preserved
loop-i-preserved c = λ k lt.
    let A = c.args.client.now in
    let B = c.args.server.now in
    let i = c.loop-i.i in
    let lies : i < length A = subst (λ ds. i < length ds) (c.as_slice-decls.ensures ∙ c.schema-schema.ensures) c.loop-i-test.true in
    let within : k < length c.loop-i.rows = omega (arith, c.add_reaching.auto.rows, lt) in
    ap (λ xs. xs ++ later_ones A k B (i + 1)) (c.in_ok-add_reaching.ensures k within)
    ∙ one_more A k B i (map method_seen (row_at c.loop-i.rows k)) lies ∙ c.loop-i.invariant k within

pub returns : goal.returns
returns c = λ k lt.
    let A = c.args.client.now in
    let B = c.args.server.now in
    let i = c.loop-i.i in
    let row = map method_seen (row_at c.loop-i.rows k) in
    let past : length A ≤ i = subst (λ ds. length ds ≤ i) (c.as_slice-decls.ensures ∙ c.schema-schema.ensures) c.loop-i-test.false in
    let within : k < length c.loop-i.rows = omega (arith, c.loop-i.auto.rows, lt) in
    sym (append-nil row) ∙ ap (λ xs. row ++ xs) (sym (no_more A k B i past)) ∙ c.loop-i.invariant k within
