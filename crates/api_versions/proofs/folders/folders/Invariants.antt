use Rattle.std.proofs.Common.{◌≡◌, length, map, drop, string_bytes}
use Rattle.std.specs.List.{range_with_len}
use Rattle.api_versions.specs.Folders.{folder}
use Rattle.api_versions.specs.Places.{places}
use Rattle.api_versions.specs.steps.Adding.{with_places}
use Rattle.api_versions.specs.Seen.{folder_seen}
use Rattle.api_versions.proofs.folders.folders.Given as goal

-- with the paths that are left, the folders are all
abbrev pub invariant-loop-path : goal.invariant-loop-path
invariant-loop-path l = record {
  all : map (with_places (places (map string_bytes (drop l.path-index l.paths)))) (map folder_seen l.folders.items) ≡ map (folder (places (map string_bytes l.paths))) (range_with_len 1 l.highest);
  numbered : map (λ f. f.number) (map folder_seen l.folders.items) ≡ range_with_len 1 l.highest;
  count : length l.folders.items ≡ l.highest;
}
