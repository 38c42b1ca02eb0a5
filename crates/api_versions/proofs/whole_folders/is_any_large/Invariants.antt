use Rattle.std.proofs.Common.{◌≡◌, map, drop}
use Rattle.std.specs.List.{list_any}
use Rattle.api_versions.specs.Versions.{is_large}
use Rattle.api_versions.specs.Seen.{folder_seen}
use Rattle.api_versions.proofs.whole_folders.is_any_large.Given as goal

abbrev pub invariant-loop-folder : goal.invariant-loop-folder
invariant-loop-folder l = list_any is_large (map folder_seen (drop l.folder-index l.folders)) ≡ list_any is_large (map folder_seen l.folders)
