use Rattle.std.proofs.Common.{◌≡◌, ◌++◌, map, drop}
use Rattle.aidl_syntax.specs.Trees.{arg_of}
use Rattle.tree_schema.specs.Parts.{arg_in}
use Rattle.tree_schema.specs.steps.Scopes.{files_of}
use Rattle.tree_schema.proofs.methods.args_in.Given as goal

-- the arguments so far and those that are left are all
abbrev pub invariant-loop-arg : goal.invariant-loop-arg
invariant-loop-arg l = l.row.items ++ map (arg_in (files_of l.scope) l.scope.file l.scope.number) (map arg_of (drop l.arg-index l.args)) ≡ map (arg_in (files_of l.scope) l.scope.file l.scope.number) (map arg_of l.args)
