-- What is answered by the schema of the tree that the words name, and of a file by it (own).
use Rattle.std.specs.Prelude.{ℕ, List, [], Option, Some, None}
use Rattle.aidl_base.specs.declared.limit.LimitName.TheVariants.{TextBytes}
use Rattle.aidl_base.specs.declared.source_file.SourceFile.{SourceFile}
use Rattle.aidl_outside.specs.Files.{Files}
use Rattle.aidl_schema.specs.declared.schema.Decl.{Decl}
use Rattle.tool_frame.specs.Answer.{Answer, AsAnswer, Found, Then}
use Rattle.tool_frame.specs.Refusals.{file_at, there}
use Rattle.tool_frame.specs.Trees.{tree_at}
use Rattle.tree_commands.specs.ByTree.{ByFiles}

-- what is answered by the declarations of a schema
abbrev pub BySchema : Type 1
BySchema = List Decl → Answer → Type 0

-- by the schema of files
abbrev pub Checked : List ℕ → List SourceFile → BySchema → Answer → Type 0
Checked root files next answer = ByFiles AsAnswer root files next answer

-- With a tree: the limits of its files, and what is answered where its schema is taken; without one it's the empty
-- schema.
abbrev pub InTree : Option (List ℕ) → Files → ((BySchema → Answer → Type 0) → Answer → Type 0) → Answer → Type 0
InTree None files next answer = next (λ by_schema. by_schema []) answer
InTree (Some root) files next answer = Then (tree_at files root) (λ sources. next (Checked root sources)) answer

-- of the file at a path, by such a schema: `no file`; the limits of the tree's files; what refuses the file's bytes;
-- all else of the tree; and then what is answered
abbrev pub OfFile : (Found (List ℕ) → Found (List ℕ)) → Option (List ℕ) → List ℕ → (List ℕ → BySchema) → Files
    → Answer → Type 0
OfFile bytes_of tree path next files = Then (there path (file_at TextBytes files path))
    (λ file. InTree tree files (λ schema. Then (bytes_of file) (λ bytes. schema (next bytes))))
