-- Trees that are checked, and what the step to the schema of one gives (own).
use Rattle.std.specs.Prelude.{ℕ, List, Ok, Err}
use Rattle.aidl_base.specs.declared.source_file.SourceFile.{SourceFile}
use Rattle.aidl_outside.specs.Asks.{Asks, ◌also◌}
use Rattle.aidl_outside.specs.Files.{Files}
use Rattle.aidl_schema.specs.declared.schema.Decl.{Decl}
use Rattle.aidl_schema.specs.declared.schema.Schema.{Schema}
use Rattle.tool_frame.specs.Answer.{Answer, Found, Then}
use Rattle.tool_frame.specs.Asks.{AsksTree}
use Rattle.tool_frame.specs.Due.{AsksWhere}
use Rattle.tool_frame.specs.Trees.{tree_at}
use Rattle.tree_commands.specs.Faults.{IsFaultAnswer}
use Rattle.type_check.specs.Checked.{IsSchemaOf}

-- the schema of the files of a tree
abbrev pub HasSchema : Found (List SourceFile) → List Decl → Type 0
HasSchema (Ok sources) S = IsSchemaOf sources S
HasSchema (Err passed) S = ⊥

-- *Checked tree*: the files below a root have this schema.
abbrev pub IsChecked : Files → List ℕ → List Decl → Type 0
IsChecked files root S = HasSchema (tree_at files root) S

-- the tree below a root is checked
abbrev pub HasOne : List ℕ → Files → Type 0
HasOne root files = (S : List Decl) × HasSchema (tree_at files root) S

-- a tree is read, and then, where it is checked, these
abbrev pub AsksCheckedThen : List ℕ → Asks → Asks
AsksCheckedThen root next = AsksTree root also AsksWhere (HasOne root) next

-- why a tree with a root isn't checked: the limit that its files pass, or what refuses these
abbrev pub Unchecked : List ℕ → Found (List SourceFile) → Answer → Type 0
Unchecked root tree = Then tree (IsFaultAnswer root)

-- its schema
abbrev pub IsOpened : List ℕ → Files → Schema → Type 0
IsOpened root files schema = HasSchema (tree_at files root) schema.decls

-- or why it isn't checked
abbrev pub IsUnchecked : List ℕ → Files → Answer → Type 0
IsUnchecked root files answer = Unchecked root (tree_at files root) answer
