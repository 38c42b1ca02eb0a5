use Rattle.std.proofs.Common.{◌≡◌, map, drop}
use Rattle.aidl_syntax.specs.Sources.{source_of}
use Rattle.declared_names.specs.Declarations.{with_files, declarations}
use Rattle.declared_names.specs.Entries.{entry_of}
use Rattle.declared_names.proofs.walking.walk.Given as goal

-- the files that are left add what all add
abbrev pub invariant-loop-i : goal.invariant-loop-i
invariant-loop-i l = with_files l.i (map source_of (drop l.i l.files)) (map entry_of l.found.items) ≡ declarations (map source_of l.files)
