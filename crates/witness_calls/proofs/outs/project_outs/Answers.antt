use Rattle.std.proofs.Common.{drop, sym, ap, ◌∙◌}
use Rattle.std.specs.Option.{option_copied}
use Rattle.std.proofs.lemmas.List.{drop_all}
use Rattle.aidl_values.specs.View.{views}
use Rattle.compat_witness.specs.Sides.{projected_outs}
use Rattle.witness_calls.specs.steps.Collected.{with_seen}
use Rattle.witness_calls.proofs.Collected.{complete}
use Rattle.witness_calls.proofs.Positions.{outs_on, outs_stop}
use Rattle.witness_calls.proofs.outs.project_outs.Goals as goal

pub returns-then-not-going : goal.returns-then-not-going
returns-then-not-going c =
    outs_stop c.args.ends.now.sender.now c.args.sent.now c.args.ends.now.receiver.now c.args.wanted.now (views c.loop-k.left.now) c.loop-k.k c.index-wanted-k.result
    (option_copied c.item_at-from.result) c.loop-k.seen.items c.push_out.new.seen.items c.in_ok-going.going _ c.loop-k-test.true c.index-wanted-k.is
    c.item_at-from.ensures c.in_ok-going.ensures c.if-not-going.true c.loop-k.invariant

pub loop-k-preserved : goal.loop-k-preserved
loop-k-preserved c =
    outs_on c.args.ends.now.sender.now c.args.sent.now c.args.ends.now.receiver.now c.args.wanted.now (views c.loop-k.left.now) (views c.values_after-left.result.now) c.loop-k.k c.index-wanted-k.result
    (option_copied c.item_at-from.result) c.loop-k.seen.items c.push_out.new.seen.items c.in_ok-going.going _ c.loop-k-test.true c.index-wanted-k.is
    c.item_at-from.ensures c.values_after-left.ensures c.in_ok-going.ensures c.if-not-going.false c.loop-k.invariant

pub returns : goal.returns
returns c =
    let A = c.args.ends.now.sender.now in
    let B = c.args.ends.now.receiver.now in
    let done = drop_all c.loop-k.k c.args.wanted.now c.loop-k-test.false in
    complete c.loop-k.seen.items c.from_vec.result _ c.from_vec.ensures
    (ap (λ xs. with_seen c.loop-k.seen.items (projected_outs A (drop c.loop-k.k c.args.sent.now) B xs (views c.loop-k.left.now))) (sym done) ∙ c.loop-k.invariant)
