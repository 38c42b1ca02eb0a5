use Rattle.std.proofs.Common.{◌≡◌, map, min, max, drop, string_bytes}
use Rattle.api_versions.specs.Folders.{highest}
use Rattle.api_versions.specs.Places.{places}
use Rattle.api_versions.proofs.folders.highest.Given as goal

abbrev pub invariant-loop-path : goal.invariant-loop-path
invariant-loop-path l = max l.highest (min 10000 (highest (places (map string_bytes (drop l.path-index l.paths))))) ≡ min 10000 (highest (places (map string_bytes l.paths)))
