use Rattle.std.proofs.Common.{◌≡◌, map, drop, []}
use Rattle.std.specs.List.{fold}
use Rattle.const_items.specs.Items.{put}
use Rattle.const_items.specs.ItemViews.{item_of}
use Rattle.const_items.proofs.Orders.{IsKeyed, seen}
use Rattle.const_items.proofs.order.items.Given as goal

-- each item so far stands at its place, and these are in order
abbrev pub invariant-loop-item : goal.invariant-loop-item
invariant-loop-item l = IsKeyed l.places.entries × (fold put (map seen l.places.entries) (map item_of (drop l.item-index l.item-items)) ≡ fold put [] (map item_of l.item-items))
