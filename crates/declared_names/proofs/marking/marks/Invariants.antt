use Rattle.std.proofs.Common.{◌≡◌, map, take}
use Rattle.declared_names.specs.Marks.{mark_of_entry}
use Rattle.declared_names.specs.Entries.{entry_of}
use Rattle.declared_names.proofs.marking.marks.Given as goal

abbrev pub invariant-loop-f : goal.invariant-loop-f
invariant-loop-f l = l.all.items ≡ map mark_of_entry (map entry_of (take l.f-index l.found))
