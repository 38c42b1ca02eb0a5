use Rattle.std.proofs.Common.{◌≡◌, ℕ, nat_eq, map, drop}
use Rattle.std.specs.List.{position_from}
use Rattle.indexmap.specs.IndexMap.{get}
use Rattle.tree_schema.specs.Numbers.{has_number}
use Rattle.tree_schema.specs.TreeViews.{numbered_of}
use Rattle.tree_schema.proofs.numbers.numbers_of.Given as goal

-- the places of the declarations from i on
abbrev pub invariant-loop-i : goal.invariant-loop-i
invariant-loop-i l = (n : ℕ) → get nat_eq l.numbers n ≡ position_from (has_number n) l.i (map numbered_of (drop l.i l.all))
