use Rattle.std.proofs.Common.{◌<◌, IsTrue, length, get_or, refl, sym, ap, subst, arith}
use Rattle.std.specs.List.{slice_get}
use Rattle.std.proofs.lemmas.List.{length-map}
use Rattle.const_eval.specs.Held.{is_held_outcome}
use Rattle.const_items.specs.Items.{items}
use Rattle.const_items.specs.ItemViews.{item_of}
use Rattle.const_eval.specs.Known.{AreHeld}
use Rattle.const_eval.specs.Outcomes.{HasOutcome, outcome_at, wanted_of}
use Rattle.const_eval.specs.TreeViews.{files_of}
use Rattle.const_eval.proofs.Progress.{at_first, at_last, one_more, ready}
use Rattle.const_eval.proofs.eval.in_turn.Goals as goal

pub loop-number-init : goal.loop-number-init
loop-number-init c =
    let len = c.in_ok-outcomes.ensures.len in
    let same = ap length c.list.ensures in
    let mapped = ap length c.requires.all in
    at_first (files_of c.args.tree.now) c.args.order.now c.in_ok-outcomes.outcomes.items (omega (arith, length-map c.args.tree.now.items.now.list.items item_of)) c.in_ok-outcomes.ensures.none

pub outcome_of-requires-clause-known : goal.outcome_of-requires-clause-known
outcome_of-requires-clause-known c off m there =
    let files = files_of c.args.tree.now in
    let i = c.loop-number.number-index in
    subst (λ os. HasOutcome files m (outcome_at os m)) (sym c.as_slice.ensures.value)
    (ready files c.args.order.now c.args.on.now c.requires.turn i (get_or c.args.order.now i 0) c.loop-number.outcomes.items c.loop-number.invariant c.loop-number-test.true refl off m there)

pub outcome_of-requires-clause-held : goal.outcome_of-requires-clause-held
outcome_of-requires-clause-held c =
    subst (λ xs. AreHeld xs c.as_slice.result.now) (sym c.requires.all)
    (subst (AreHeld (items (files_of c.args.tree.now))) (sym c.as_slice.ensures.value) c.loop-number.invariant.held)

pub loop-number-preserved : goal.loop-number-preserved
loop-number-preserved c =
    let files = files_of c.args.tree.now in
    let order = c.args.order.now in
    let i = c.loop-number.number-index in
    let old = c.loop-number.outcomes.items in
    let m = get_or order i 0 in
    let o = c.in_ok-outcome.outcome in
    let count = c.loop-number.invariant.count in
    let mapped = ap length c.requires.all in
    let below : m < length c.args.tree.now.items.now.list.items = c.requires.below i 0 c.loop-number-test.true in
    let within : m < length old = omega (arith, length-map c.args.tree.now.items.now.list.items item_of) in
    let fits : IsTrue (is_held_outcome (wanted_of (slice_get (items files) m)) o) =
    subst (λ xs. IsTrue (is_held_outcome (wanted_of (slice_get xs m)) o)) c.requires.all c.in_ok-outcome.ensures.held in
    one_more files order m old o within i c.loop-number.invariant refl c.in_ok-outcome.ensures.exact fits _ refl

pub returns : goal.returns
returns c =
    let mapped = ap length c.requires.all in
    at_last (files_of c.args.tree.now) c.args.order.now c.loop-number.number-index c.loop-number.outcomes.items (omega arith)
    (λ n lt. c.requires.each n (omega (arith, length-map c.args.tree.now.items.now.list.items item_of))) c.loop-number.invariant
