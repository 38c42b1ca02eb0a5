use Rattle.std.proofs.Common.{◌≡◌, take}
use Rattle.name_resolution.proofs.by_name.by_names.Given as goal

-- those of the files so far
abbrev pub invariant-loop-of_file : goal.invariant-loop-of_file
invariant-loop-of_file l = l.names.items ≡ take l.of_file-index l.imports
