use Rattle.std.proofs.Common.{◌≡◌, map, take}
use Rattle.declared_names.specs.Ends.{mark_of_import}
use Rattle.name_resolution.proofs.whole_names.marks_of.Given as goal

-- the marks of the imports so far
abbrev pub invariant-loop-import : goal.invariant-loop-import
invariant-loop-import l = l.marks.items ≡ map (λ d. mark_of_import d.now) (take l.import-index l.imports)
