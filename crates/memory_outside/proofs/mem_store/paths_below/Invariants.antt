use Rattle.std.proofs.Common.{◌≡◌, ◌++◌, map, drop, string_bytes}
use Rattle.std.specs.List.{filter_map}
use Rattle.aidl_outside.specs.Entries.{path_of}
use Rattle.aidl_outside.specs.Files.{below}
use Rattle.memory_outside.proofs.mem_store.paths_below.Given as goal

-- what was found, and then what is left, is all
abbrev pub invariant-loop-file : goal.invariant-loop-file
invariant-loop-file l = map string_bytes l.paths.items ++ filter_map (below l.root) (map path_of (drop l.file-index l.files)) ≡ filter_map (below l.root) (map path_of l.files)
