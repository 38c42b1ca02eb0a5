use Rattle.std.proofs.Common.{◌≡◌, map, take}
use Rattle.declared_names.specs.Marks.{mark_of_last}
use Rattle.aidl_names.proofs.imports.last_marks.Given as goal

-- the marks of the imports so far
abbrev pub invariant-loop-import : goal.invariant-loop-import
invariant-loop-import l = l.marks.items ≡ map mark_of_last (take l.import-index l.imports)
