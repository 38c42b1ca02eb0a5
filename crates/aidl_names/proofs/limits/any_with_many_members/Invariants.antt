use Rattle.std.proofs.Common.{◌≡◌, map, drop}
use Rattle.std.specs.List.{list_any}
use Rattle.aidl_names.specs.Limits.{has_many_members}
use Rattle.declared_names.specs.Entries.{entry_of}
use Rattle.aidl_names.proofs.limits.any_with_many_members.Given as goal

-- what is left decides
abbrev pub invariant-loop-f : goal.invariant-loop-f
invariant-loop-f l = list_any has_many_members (map entry_of (drop l.f-index l.found)) ≡ list_any has_many_members (map entry_of l.found)
