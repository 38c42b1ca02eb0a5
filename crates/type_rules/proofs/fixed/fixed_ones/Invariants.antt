use Rattle.std.proofs.Common.{◌≡◌, map, take}
use Rattle.declared_names.specs.Entries.{entry_of}
use Rattle.type_uses.specs.Bases.{is_fixed_entry}
use Rattle.type_rules.proofs.fixed.fixed_ones.Given as goal

abbrev pub invariant-loop-f : goal.invariant-loop-f
invariant-loop-f l = l.fixed.items ≡ map is_fixed_entry (map entry_of (take l.f-index l.found))
