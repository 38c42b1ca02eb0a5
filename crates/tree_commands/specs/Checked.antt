-- What `check` prints of the files of a tree with its root, and what it answers over the files of a store (own).
use Rattle.std.specs.Prelude.{◌≡◌, ℕ, ◌++◌, List, length, codes}
use Rattle.std.specs.Fmt.{decimal}
use Rattle.aidl_base.specs.declared.source_file.SourceFile.{SourceFile}
use Rattle.aidl_outside.specs.Files.{Files}
use Rattle.aidl_schema.specs.declared.schema.Decl.{Decl}
use Rattle.tool_frame.specs.Answer.{Answer, AsAnswer, done, Then}
use Rattle.tool_frame.specs.Trees.{tree_at}
use Rattle.tree_commands.specs.ByTree.{ByFiles}

-- `ok N types`, N the number of declarations
abbrev pub accepted : List Decl → Answer
accepted schema = done (codes "ok " ++ decimal (length schema) ++ codes " types")

-- by the schema of the files
abbrev pub IsCheckAnswer : List ℕ → List SourceFile → Answer → Type 0
IsCheckAnswer root files answer = ByFiles AsAnswer root files (λ schema a. a ≡ accepted schema) answer

-- `check TREE`
abbrev pub CheckAnswers : List ℕ → Files → Answer → Type 0
CheckAnswers root files = Then (tree_at files root) (IsCheckAnswer root)
