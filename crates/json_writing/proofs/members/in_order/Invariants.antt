use Rattle.json_writing.proofs.Rows.{InOrder}
use Rattle.json_writing.proofs.members.in_order.Given as goal

-- what is left completes the row
abbrev pub invariant-loop-name : goal.invariant-loop-name
invariant-loop-name l =
    (goal.iterator-loop-name).can_next l.name-iterator × (goal.iterator-loop-name).is_finite l.name-iterator × InOrder l.fields l.row.items l.later l.name-iterator
