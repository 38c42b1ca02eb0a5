use Rattle.std.proofs.Common.{◌≡◌, map}
use Rattle.std.specs.List.{range_with_len}
use Rattle.api_versions.specs.steps.Adding.{no_folder}
use Rattle.api_versions.specs.Seen.{folder_seen}
use Rattle.api_versions.proofs.folders.empty_folders.Given as goal

abbrev pub invariant-loop-before : goal.invariant-loop-before
invariant-loop-before l = map folder_seen l.folders.items ≡ map no_folder (range_with_len 1 l.before)
