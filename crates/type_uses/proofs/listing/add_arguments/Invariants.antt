use Rattle.std.proofs.Common.{◌≡◌, ◌++◌, map, drop}
use Rattle.aidl_syntax.specs.Trees.{arg_of}
use Rattle.aidl_syntax.specs.Sources.{source_of}
use Rattle.type_shapes.specs.Types.{shape_in}
use Rattle.type_uses.specs.TypeUses.{of_arg}
use Rattle.type_uses.specs.TypeUseViews.{seen_use}
use Rattle.type_uses.proofs.listing.add_arguments.Given as goal

-- the uses so far and those of the arguments that are left are all
abbrev pub invariant-loop-arg : goal.invariant-loop-arg
invariant-loop-arg l =
    map seen_use l.uses.items ++ map (of_arg (shape_in (map source_of l.names) l.file l.number)) (map arg_of (drop l.arg-index l.args))
    ≡ map seen_use l.fn.uses.items ++ map (of_arg (shape_in (map source_of l.names) l.file l.number)) (map arg_of l.args)
