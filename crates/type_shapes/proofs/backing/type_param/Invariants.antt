use Rattle.std.proofs.Common.{◌≡◌, map, drop}
use Rattle.std.specs.List.{find}
use Rattle.aidl_syntax.specs.Trees.{param_of}
use Rattle.type_shapes.specs.Backing.{is_type}
use Rattle.type_shapes.proofs.backing.type_param.Given as goal

-- what is left decides
abbrev pub invariant-loop-param : goal.invariant-loop-param
invariant-loop-param l = find is_type (map param_of (drop l.param-index l.params)) ≡ find is_type (map param_of l.params)
