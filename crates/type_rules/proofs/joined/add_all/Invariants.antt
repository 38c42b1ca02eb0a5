use Rattle.std.proofs.Common.{◌≡◌, ◌++◌, map, drop}
use Rattle.aidl_syntax.specs.Sources.{source_of}
use Rattle.declared_names.specs.Numbered.{in_each}
use Rattle.declared_names.specs.Entries.{entry_of}
use Rattle.type_rules.specs.Breaches.{broken_in, unsorted}
use Rattle.type_rules.proofs.joined.add_all.Given as goal

-- the breaches so far and those of the declarations that are left are all
abbrev pub invariant-loop-i : goal.invariant-loop-i
invariant-loop-i l =
    l.rows.items ++ in_each (broken_in (map source_of l.names)) l.i (map entry_of (drop l.i l.found))
    ≡ l.fn.rows.items ++ unsorted (map source_of l.names)
