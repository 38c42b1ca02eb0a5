-- What the commands that write do over the files of a store (own).
use Rattle.std.specs.Prelude.{ℕ, List}
use Rattle.aidl_base.specs.declared.source_file.SourceFile.{SourceFile}
use Rattle.aidl_outside.specs.Files.{Files}
use Rattle.aidl_schema.specs.declared.schema.Decl.{Decl}
use Rattle.api_freeze.specs.Rehash.{rehash_at, rehash_writes}
use Rattle.api_versions.specs.Versions.{versions_at}
use Rattle.version_commands.specs.Dumped.{Dumps}
use Rattle.version_commands.specs.Frozen.{Freezes}
use Rattle.tool_frame.specs.Acts.{Acts, Unwritten}
use Rattle.tool_frame.specs.Answer.{Found}
use Rattle.tool_frame.specs.Trees.{tree_at}
use Rattle.tree_commands.specs.ByTree.{ByTree}
use Rattle.version_commands.specs.Rehashed.{Rehashes}

-- what is done by the schema of a tree; where it has none, nothing is written
abbrev pub BySchema : List ℕ → Found (List SourceFile) → (List Decl → Acts) → Acts
BySchema root tree next made answer = ByTree (Unwritten made) root tree (λ S. next S made) answer

-- `dump TREE OUT`
abbrev pub DumpActs : List ℕ → List ℕ → Files → Acts
DumpActs tree out files = BySchema tree (tree_at files tree) (Dumps out)

-- `freeze TREE API`
abbrev pub FreezeActs : List ℕ → List ℕ → Files → Acts
FreezeActs tree api files = BySchema tree (tree_at files tree) (Freezes api (versions_at files api))

-- `rehash API`
abbrev pub RehashActs : List ℕ → Files → Acts
RehashActs api files = Rehashes (rehash_writes files api) (rehash_at files api)
