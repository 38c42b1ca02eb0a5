use Rattle.std.proofs.Common.{◌≡◌, map, take}
use Rattle.name_resolution.specs.Imports.{meant_through, meant_in}
use Rattle.aidl_syntax.specs.Sources.{source_of}
use Rattle.name_resolution.proofs.imported.imports_of_files.Given as goal

-- those of the files so far
abbrev pub invariant-loop-file : goal.invariant-loop-file
invariant-loop-file l = map meant_through l.all.items ≡ map meant_in (map source_of (take l.file-index l.files))
