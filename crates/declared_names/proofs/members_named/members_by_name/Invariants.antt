use Rattle.std.proofs.Common.{◌≡◌, map, take}
use Rattle.declared_names.specs.Called.{called, seen_table}
use Rattle.declared_names.specs.Entries.{entry_of}
use Rattle.declared_names.proofs.members_named.members_by_name.Given as goal

-- those of the declarations so far
abbrev pub invariant-loop-f : goal.invariant-loop-f
invariant-loop-f l = map seen_table l.tables.items ≡ map called (map entry_of (take l.f-index l.found))
