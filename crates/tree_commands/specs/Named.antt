-- What the steps to a file give, and to the schema of the tree that the words name beside it.
use Rattle.std.specs.Prelude.{◌≡◌, ℕ, List, [], Option, Some, None, Result, Ok, Err, Vec}
use Rattle.std.specs.declared.alloc.Global.{Global}
use Rattle.aidl_base.specs.declared.limit.Limit.{Limit}
use Rattle.aidl_base.specs.declared.limit.LimitName.TheVariants.{TextBytes}
use Rattle.aidl_outside.specs.Files.{Files}
use Rattle.aidl_schema.specs.declared.schema.Decl.{Decl}
use Rattle.tool_frame.specs.Answer.{Answer, Then}
use Rattle.tool_frame.specs.Refusals.{file_at, there}
use Rattle.tool_frame.specs.Results.{held}
use Rattle.tool_frame.specs.Trees.{tree_at}
use Rattle.tree_commands.specs.declared.in_tree.Tree.{Tree}
use Rattle.tree_commands.specs.Faults.{IsFaultAnswer}
use Rattle.type_check.specs.Checked.{IsSchemaOf}

-- the tree that the words name, where they name one
abbrev pub IsNamed : Option (List ℕ) → Files → Option Tree → Type 0
IsNamed None files None = Unit {0}
IsNamed None files (Some t) = ⊥
IsNamed (Some root) files None = ⊥
IsNamed (Some root) files (Some t) = (t.root.now ≡ root) × (tree_at files root ≡ Ok t.files)

-- the limit that its files pass
abbrev pub PassesIn : Option (List ℕ) → Files → Answer → Type 0
PassesIn None files answer = ⊥
PassesIn (Some root) files answer = tree_at files root ≡ Err answer

-- the file at a path, or the limit that its bytes pass, and the tree
abbrev pub AreLoaded : List ℕ → Option (List ℕ) → Files → Result (Vec ℕ Global) Limit × Option Tree → Type 0
AreLoaded path tree files both =
    (there path (file_at TextBytes files path) ≡ Ok (held both.0)) × IsNamed tree files both.1

-- `no file`, or the limit that the tree's files pass
abbrev pub AreNotLoaded : List ℕ → Option (List ℕ) → Files → Answer → Type 0
AreNotLoaded path tree files answer =
    Then (there path (file_at TextBytes files path)) (λ file. PassesIn tree files) answer

-- the tree's schema; the empty one without a tree
abbrev pub IsSchemaIn : Option Tree → List Decl → Type 0
IsSchemaIn None S = S ≡ []
IsSchemaIn (Some t) S = IsSchemaOf t.files S

-- what refuses its files
abbrev pub IsUncheckedIn : Option Tree → Answer → Type 0
IsUncheckedIn None answer = ⊥
IsUncheckedIn (Some t) answer = IsFaultAnswer t.root.now t.files answer
