use Rattle.std.proofs.Common.{◌≡◌, map, take}
use Rattle.declared_names.specs.Marks.{mark_of_last}
use Rattle.name_resolution.proofs.imported.marks_of.Given as goal

-- the marks of the imports so far
abbrev pub invariant-loop-import : goal.invariant-loop-import
invariant-loop-import l = l.marks.items ≡ map mark_of_last (map (λ d. d.now) (take l.import-index l.imports))
