use Rattle.std.proofs.Common.{◌≡◌, map, drop}
use Rattle.std.specs.List.{list_any}
use Rattle.aidl_syntax.specs.Trees.{param_of}
use Rattle.type_uses.specs.Parameters.{is_heap_true}
use Rattle.type_uses.proofs.parameters.has_heap_true.Given as goal

-- what is left decides
abbrev pub invariant-loop-param : goal.invariant-loop-param
invariant-loop-param l = list_any is_heap_true (map param_of (drop l.param-index l.params)) ≡ list_any is_heap_true (map param_of l.params)
