use Rattle.std.proofs.Common.{◌≡◌, ℕ, map, drop}
use Rattle.std.specs.List.{position_from}
use Rattle.indexmap.specs.IndexMap.{get}
use Rattle.const_items.specs.Items.{is_at}
use Rattle.const_items.specs.ItemViews.{item_of, same_place}
use Rattle.const_items.proofs.numbering.places.Given as goal

-- the places of the items from i on
abbrev pub invariant-loop-i : goal.invariant-loop-i
invariant-loop-i l = (file place : ℕ) → get same_place l.places (file, place) ≡ position_from (is_at file place) l.i (map item_of (drop l.i l.list))
