use Rattle.std.proofs.Common.{◌≡◌, ◌++◌, map, drop}
use Rattle.aidl_syntax.specs.Trees.{exprs_of}
use Rattle.tree_schema.specs.Values.{constant_value}
use Rattle.tree_schema.specs.steps.Scopes.{files_of, outcomes_of}
use Rattle.tree_schema.proofs.values.values.Given as goal

-- the values so far and those of the expressions that are left are all
abbrev pub invariant-loop-expr : goal.invariant-loop-expr
invariant-loop-expr l =
    l.row.items ++ map (λ e. constant_value (files_of l.scope) (outcomes_of l.scope) l.scope.file e) (exprs_of (drop l.expr-index l.exprs))
    ≡ map (λ e. constant_value (files_of l.scope) (outcomes_of l.scope) l.scope.file e) (exprs_of l.exprs)
