use Rattle.std.proofs.Common.{◌≡◌, ◌++◌, map, drop}
use Rattle.aidl_syntax.specs.Trees.{enumerator_of}
use Rattle.tree_schema.specs.Parts.{enumerator_in}
use Rattle.tree_schema.specs.steps.Scopes.{files_of, outcomes_of}
use Rattle.tree_schema.proofs.kinds.enumerators_in.Given as goal

-- the enumerators so far and those that are left are all
abbrev pub invariant-loop-enumerator : goal.invariant-loop-enumerator
invariant-loop-enumerator l =
    l.row.items ++ map (enumerator_in (files_of l.scope) (outcomes_of l.scope) l.scope.file) (map enumerator_of (drop l.enumerator-index l.enumerators))
    ≡ map (enumerator_in (files_of l.scope) (outcomes_of l.scope) l.scope.file) (map enumerator_of l.enumerators)
