use Rattle.std.proofs.Common.{◌≡◌, ◌++◌, map, drop}
use Rattle.aidl_syntax.specs.Sources.{source_of}
use Rattle.const_eval.specs.Outcomes.{outcome_at}
use Rattle.tree_schema.specs.SchemaOf.{declared}
use Rattle.tree_schema.specs.TreeViews.{numbered_of}
use Rattle.tree_schema.proofs.drafting.declarations_in.Given as goal

-- the declarations so far and those that are left are all
abbrev pub invariant-loop-placed : goal.invariant-loop-placed
invariant-loop-placed l =
    l.decls.items ++ map (declared (map source_of l.names) (outcome_at l.settled.outcomes.items)) (map numbered_of (drop l.placed-index l.order))
    ≡ map (declared (map source_of l.names) (outcome_at l.settled.outcomes.items)) (map numbered_of l.order)
