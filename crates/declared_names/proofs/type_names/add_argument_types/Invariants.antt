use Rattle.std.proofs.Common.{◌≡◌, ◌++◌, map, drop}
use Rattle.std.specs.List.{flat_map}
use Rattle.aidl_syntax.specs.Trees.{arg_of}
use Rattle.declared_names.specs.TypeNames.{names_of_type}
use Rattle.declared_names.proofs.type_names.add_argument_types.Given as goal

-- the names so far and those that are left are all
abbrev pub invariant-loop-arg : goal.invariant-loop-arg
invariant-loop-arg l =
    map (λ d. d.now) l.names.items ++ flat_map (λ a. names_of_type a.ty) (map arg_of (drop l.arg-index l.args))
    ≡ map (λ d. d.now) l.fn.names.items ++ flat_map (λ a. names_of_type a.ty) (map arg_of l.args)
