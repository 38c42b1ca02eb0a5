use Rattle.std.specs.Prelude.{◌≡◌, ◌++◌, map}
use Rattle.api_dump.specs.Dump.{seen}
use Rattle.api_versions.specs.Seen.{write_seen}
use Rattle.version_commands.specs.Dumped.{file_write}
use Rattle.version_commands.proofs.dumping.file_writes.Given as goal

abbrev pub invariant-loop-file : goal.invariant-loop-file
invariant-loop-file l = map write_seen l.writes.items ++ map (file_write l.out) (map seen l.file-iterator.rest.items) ≡ map (file_write l.out) (map seen l.fn.files)
