use Rattle.std.proofs.Common.{◌≡◌, ◌++◌, map, drop}
use Rattle.const_eval.specs.Breaches.{breaches, breaches_from}
use Rattle.const_items.specs.ItemViews.{item_of}
use Rattle.const_eval.specs.Outcomes.{outcome_at}
use Rattle.const_eval.proofs.breach_rows.breaches.Given as goal

-- the breaches so far and those of the items that are left are all
abbrev pub invariant-loop-i : goal.invariant-loop-i
invariant-loop-i l =
    l.rows ++ breaches_from (outcome_at l.settled.outcomes.items) l.i (map item_of (drop l.i l.settled.items.list.items))
    ≡ breaches (outcome_at l.settled.outcomes.items) (map item_of l.settled.items.list.items)
