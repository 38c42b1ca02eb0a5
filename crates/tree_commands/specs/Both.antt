-- Two trees: what the steps to their sources and to their schemas give, and what is answered by both schemas.
use Rattle.std.specs.Prelude.{◌≡◌, ℕ, List, Ok, Err}
use Rattle.aidl_base.specs.declared.source_file.SourceFile.{SourceFile}
use Rattle.aidl_outside.specs.Files.{Files}
use Rattle.aidl_schema.specs.declared.schema.Decl.{Decl}
use Rattle.aidl_schema.specs.declared.schema.Schema.{Schema}
use Rattle.tool_frame.specs.Answer.{Answer, AsAnswer, Then}
use Rattle.tool_frame.specs.Trees.{tree_at}
use Rattle.tree_commands.specs.ByTree.{ByBoth, ByFiles, OverBoth}
use Rattle.tree_commands.specs.Faults.{IsFaultAnswer}
use Rattle.tree_commands.specs.Opens.{IsChecked}

-- they are those below both roots
abbrev pub AreBoth : List ℕ → List ℕ → Files → List SourceFile × List SourceFile → Type 0
AreBoth first second files both = (tree_at files first ≡ Ok both.0) × (tree_at files second ≡ Ok both.1)

-- the limit that the first pass, or else the one that the second do
abbrev pub PassesOne : List ℕ → List ℕ → Files → Answer → Type 0
PassesOne first second files answer =
    Then (tree_at files first) (λ olds passed. tree_at files second ≡ Err passed) answer

-- what refuses the first files, or else the second
abbrev pub IsFaultOfOne : List ℕ → List SourceFile → List ℕ → List SourceFile → Answer → Type 0
IsFaultOfOne first olds second news answer =
    ByFiles AsAnswer first olds (λ old. IsFaultAnswer second news) answer

-- the schemas of the trees below two roots
abbrev pub AreOpened : List ℕ → List ℕ → Files → Schema × Schema → Type 0
AreOpened first second files both = IsChecked files first both.0.decls × IsChecked files second both.1.decls

-- or why one of them isn't checked
abbrev pub IsOneUnchecked : List ℕ → List ℕ → Files → Answer → Type 0
IsOneUnchecked first second files answer =
    OverBoth AsAnswer (tree_at files first) (tree_at files second) (λ olds. IsFaultOfOne first olds second) answer

-- what is answered by their schemas
abbrev pub InBoth : List ℕ → List ℕ → Files → (List Decl → List Decl → Answer → Type 0) → Answer → Type 0
InBoth first second files by_schemas answer =
    OverBoth AsAnswer (tree_at files first) (tree_at files second)
    (λ olds news. ByBoth AsAnswer first olds second news by_schemas) answer
