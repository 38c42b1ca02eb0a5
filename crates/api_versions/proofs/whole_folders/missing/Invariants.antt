use Rattle.std.proofs.Common.{◌≡◌, map, drop}
use Rattle.api_versions.specs.Versions.{missing}
use Rattle.api_versions.specs.Seen.{folder_seen}
use Rattle.api_versions.proofs.whole_folders.missing.Given as goal

abbrev pub invariant-loop-folder : goal.invariant-loop-folder
invariant-loop-folder l = missing (map folder_seen (drop l.folder-index l.folders)) ≡ missing (map folder_seen l.folders)
