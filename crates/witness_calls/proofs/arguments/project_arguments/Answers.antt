use Rattle.std.proofs.Common.{◌≡◌, Some, None, drop, slice_get, sym, ap, ◌∙◌}
use Rattle.std.specs.Prelude.{option_map}
use Rattle.std.proofs.lemmas.List.{drop_all}
use Rattle.std.specs.Option.{option_copied}
use Rattle.aidl_values.specs.View.{view, views}
use Rattle.compat_witness.specs.Sides.{projected_arguments}
use Rattle.witness_calls.specs.steps.Collected.{with_seen}
use Rattle.witness_calls.specs.steps.Positions.{argument_seen}
use Rattle.witness_calls.proofs.Collected.{collected, complete, stopped}
use Rattle.witness_calls.proofs.Positions.{next_argument}
use Rattle.witness_calls.proofs.arguments.project_arguments.Goals as goal

pub loop-k-preserved : goal.loop-k-preserved
loop-k-preserved c =
    let A = c.args.ends.now.sender.now in
    let B = c.args.ends.now.receiver.now in
    let k = c.loop-k.k in
    let b = c.index-wanted-k.result in
    let next = next_argument A c.args.sent.now B c.args.wanted.now c.args.values.now k b c.loop-k-test.true c.index-wanted-k.is in
    let is : argument_seen A (slice_get c.args.sent.now k) B b (option_map view (slice_get c.args.values.now k)) ≡ Some (view c.in-Some.view) =
    ap (λ z. argument_seen A z B b (option_map view (slice_get c.args.values.now k))) (sym c.item_at-argument.ensures)
    ∙ ap (λ z. argument_seen A (option_copied c.item_at-argument.result) B b (option_map view z)) (sym c.item_at-value.ensures)
    ∙ sym c.in_ok-view.ensures ∙ ap (option_map view) c.in-Some.is in
    collected c.loop-k.seen.items c.push.new.self.items c.in-Some.view _ _ _ _ is c.in_ok-push-in-Some.ensures.items next c.loop-k.invariant

pub returns-in-None : goal.returns-in-None
returns-in-None c =
    let A = c.args.ends.now.sender.now in
    let B = c.args.ends.now.receiver.now in
    let k = c.loop-k.k in
    let b = c.index-wanted-k.result in
    let next = next_argument A c.args.sent.now B c.args.wanted.now c.args.values.now k b c.loop-k-test.true c.index-wanted-k.is in
    let is : argument_seen A (slice_get c.args.sent.now k) B b (option_map view (slice_get c.args.values.now k)) ≡ None =
    ap (λ z. argument_seen A z B b (option_map view (slice_get c.args.values.now k))) (sym c.item_at-argument.ensures)
    ∙ ap (λ z. argument_seen A (option_copied c.item_at-argument.result) B b (option_map view z)) (sym c.item_at-value.ensures)
    ∙ sym c.in_ok-view.ensures ∙ ap (option_map view) c.in-None.is in
    stopped c.loop-k.seen.items _ _ _ _ is next c.loop-k.invariant

pub returns : goal.returns
returns c =
    let A = c.args.ends.now.sender.now in
    let B = c.args.ends.now.receiver.now in
    let k = c.loop-k.k in
    let done = drop_all k c.args.wanted.now c.loop-k-test.false in
    complete c.loop-k.seen.items c.from_vec.result _ c.from_vec.ensures
    (ap (λ ys. with_seen c.loop-k.seen.items (projected_arguments A (drop k c.args.sent.now) B ys (views (drop k c.args.values.now)))) (sym done) ∙ c.loop-k.invariant)
