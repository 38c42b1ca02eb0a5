use Rattle.std.proofs.Common.{◌≡◌, ◌++◌, map, drop}
use Rattle.declared_names.specs.Numbered.{in_each}
use Rattle.tree_schema.specs.TreeViews.{numbered_of}
use Rattle.type_check.specs.Bounds.{bound_at, broken_at}
use Rattle.type_check.proofs.bounds.add_broken.Given as goal

-- the breaches so far and those that are left are all
abbrev pub invariant-loop-i : goal.invariant-loop-i
invariant-loop-i l =
    l.rows.items ++ in_each (broken_at l.rule (bound_at l.bounds)) l.i (map numbered_of (drop l.i l.order))
    ≡ l.fn.rows.items ++ in_each (broken_at l.rule (bound_at l.bounds)) 0 (map numbered_of l.order)
