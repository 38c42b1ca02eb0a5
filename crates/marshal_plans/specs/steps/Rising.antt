-- The order of starts.
use Rattle.std.specs.Prelude.{ℕ, List, Option, Some, None}
use Rattle.std.specs.declared.cmp.Ordering.{Ordering}
use Rattle.std.specs.declared.cmp.Ordering.TheVariants.{Less, Equal, Greater}
use Rattle.std.specs.List.Sorted.{IsNonDecreasingBy}
use Rattle.std.specs.Ordering.{nat_cmp, ordering_then, ordering_index}
use Rattle.marshal_plans.specs.declared.plans.PlanStart.{PlanStart}

-- arguments by their positions, and then the result
abbrev pub place_order : Option ℕ → Option ℕ → Ordering
place_order (Some j) (Some k) = nat_cmp j k
place_order (Some j) None = Less
place_order None (Some k) = Greater
place_order None None = Equal

-- how a start stands to a place
abbrev pub order_to : ℕ → ℕ → Option ℕ → PlanStart → Ordering
order_to n m place s =
    ordering_then (nat_cmp s.interface n) (ordering_then (nat_cmp s.method m) (place_order s.place place))

-- The starts stand in the order by which they are compared to this place.
abbrev pub AreRising : List PlanStart → ℕ → ℕ → Option ℕ → Type 0
AreRising starts n m place = IsNonDecreasingBy (λ s. ordering_index (order_to n m place s)) starts
