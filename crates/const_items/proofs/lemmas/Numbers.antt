-- The number of an item is below their count.
use Rattle.std.proofs.Common.{◌<◌, ◌≤◌, ◌+◌, ℕ, Bool, true, false, cond, List, [], ◌∷◌, length, map, Some, IfSome, arith}
use Rattle.std.specs.List.{position_from}
use Rattle.std.proofs.lemmas.List.{length-map}
use Rattle.const_items.specs.declared.item.ItemRef.{ItemRef}
use Rattle.const_items.specs.ItemViews.{item_of}
use Rattle.const_items.specs.Items.{is_at, number_at}

found_within : {X : Type 0} (p : X → Bool) (k : ℕ) (xs : List X) (most : ℕ) → k + length xs ≤ most → IfSome (position_from p k xs) (λ n. n < most)
found_within p k [] most l = tt
found_within p k (x ∷ xs) most l = go (p x) (found_within p (k + 1) xs most (omega arith)) where
  go : (b : Bool) → IfSome (position_from p (k + 1) xs) (λ n. n < most) → IfSome (cond b (Some k) (position_from p (k + 1) xs)) (λ n. n < most)
  go true i = omega arith
  go false i = i

-- of an item at a place
pub at_within : (list : List ItemRef) (most file place : ℕ) → length list ≤ most → IfSome (number_at (map item_of list) file place) (λ n. n < most)
at_within list most file place l = found_within (is_at file place) 0 (map item_of list) most (omega (arith, length-map list item_of))
