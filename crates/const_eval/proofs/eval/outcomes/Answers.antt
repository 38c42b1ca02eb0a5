use Rattle.std.proofs.Common.{ℕ, ◌<◌, length, Contains, slice_index, sym, ap, subst, arith}
use Rattle.std.specs.List.Sorted.{IsNonDecreasingBy}
use Rattle.std.proofs.lemmas.List.{length-map}
use Rattle.graph_cycles.specs.Paths.{Descends, targets}
use Rattle.const_items.specs.Items.{items}
use Rattle.const_items.specs.ItemViews.{item_of}
use Rattle.const_eval.specs.Known.{IsInTurn}
use Rattle.const_eval.specs.TreeViews.{files_of}
use Rattle.const_eval.proofs.Turns.{in_turn}
use Rattle.const_eval.proofs.eval.outcomes.Goals as goal

pub in_turn-requires-clause-each : goal.in_turn-requires-clause-each
in_turn-requires-clause-each c n lt =
    let same = ap length c.list.ensures in
    subst (λ xs. Contains xs n) (sym c.as_slice-4.ensures.value) (c.in_ok-order.ensures.each n (omega arith))

pub in_turn-requires-clause-turn : goal.in_turn-requires-clause-turn
in_turn-requires-clause-turn c =
    let files = files_of c.args.tree.now in
    let list = c.args.tree.now.items.now.list.items in
    let rows = c.in_ok-dependence.dependence.next.items in
    let on = c.in_ok-cycles.cycles.on.items in
    let ranks = c.in_ok-cycles.cycles.ranks.items in
    let order = c.in_ok-order.order.items in
    let same = ap length c.list.ensures in
    let mapped = ap length c.requires.all in
    let falls : Descends (targets rows) on ranks = subst (λ es. Descends (targets es) on ranks) c.as_slice.ensures.value c.in_ok-cycles.ensures.ranks in
    let up : IsNonDecreasingBy (λ n. slice_index ranks n) order =
    subst (λ rs. IsNonDecreasingBy (λ n. slice_index rs n) order) c.as_slice-2.ensures.value c.in_ok-order.ensures.order in
    let whole : (n : ℕ) → n < length (items files) → Contains order n = λ n lt. c.in_ok-order.ensures.each n (omega (arith, length-map list item_of)) in
    let turn : IsInTurn files on order = in_turn files rows c.in_ok-dependence.ensures.next on ranks order falls whole up in
    subst (λ xs. IsInTurn files xs c.as_slice-4.result.now) (sym c.as_slice-3.ensures.value) (subst (IsInTurn files on) (sym c.as_slice-4.ensures.value) turn)
