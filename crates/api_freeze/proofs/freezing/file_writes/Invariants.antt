use Rattle.std.proofs.Common.{◌≡◌, ◌++◌, map}
use Rattle.api_freeze.specs.Freeze.{file_write}
use Rattle.api_versions.specs.Seen.{write_seen}
use Rattle.api_freeze.proofs.freezing.file_writes.Given as goal

abbrev pub invariant-loop-file : goal.invariant-loop-file
invariant-loop-file l = map write_seen l.writes.items ++ map (file_write l.folder) l.file-iterator.rest.items ≡ map (file_write l.folder) l.fn.files
