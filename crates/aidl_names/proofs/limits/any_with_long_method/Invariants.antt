use Rattle.std.proofs.Common.{◌≡◌, map, drop}
use Rattle.std.specs.List.{list_any}
use Rattle.aidl_names.specs.Limits.{has_long_method}
use Rattle.declared_names.specs.Entries.{entry_of}
use Rattle.aidl_names.proofs.limits.any_with_long_method.Given as goal

-- what is left decides
abbrev pub invariant-loop-f : goal.invariant-loop-f
invariant-loop-f l = list_any has_long_method (map entry_of (drop l.f-index l.found)) ≡ list_any has_long_method (map entry_of l.found)
