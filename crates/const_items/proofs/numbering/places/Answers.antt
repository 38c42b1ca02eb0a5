use Rattle.std.proofs.Common.{◌≡◌, ℕ, ◌+◌, ◌-◌, sym, ap, ◌∙◌, arith, cond, Some, map, drop}
use Rattle.std.specs.List.{position_from}
use Rattle.const_items.specs.Items.{is_at}
use Rattle.const_items.specs.ItemViews.{item_of}
use Rattle.const_items.proofs.General.{before}
use Rattle.const_items.proofs.numbering.places.Goals as goal

-- the item's place, or else what was there
pub loop-i-preserved : goal.loop-i-preserved
loop-i-preserved c file place =
    let n = c.loop-i.i - 1 in
    let x = c.index-list-i.result in
    let next : c.loop-i.i ≡ n + 1 = omega (arith, c.loop-i-test.true) in
    c.in_ok-insert.ensures.updates.0 (file, place)
    ∙ ap (cond (is_at file place (item_of x)) (Some n)) (c.loop-i.invariant file place ∙ ap (λ (j : ℕ). position_from (is_at file place) j (map item_of (drop j c.args.list.now))) next)
    ∙ sym (before item_of (is_at file place) c.args.list.now n x (omega arith) c.index-list-i.is)
