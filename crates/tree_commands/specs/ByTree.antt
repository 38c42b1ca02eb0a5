-- What comes of a tree in each command that reads one, in the order of its refusals (own): the limit that its files
-- pass; what refuses its files, which are faults of tokens, of syntax, and of names, constants and types, and
-- limits between these; else what comes of its schema.
use Rattle.std.specs.Prelude.{◌⊎◌, ℕ, List}
use Rattle.aidl_base.specs.declared.source_file.SourceFile.{SourceFile}
use Rattle.aidl_schema.specs.declared.schema.Decl.{Decl}
use Rattle.tool_frame.specs.Answer.{Answer, Found, FoundThen, Refusing}
use Rattle.tree_commands.specs.Faults.{IsFaultAnswer}
use Rattle.type_check.specs.Checked.{IsSchemaOf}

-- of the files of a tree with a root: what refuses them, or what comes of the schema that they have
abbrev pub ByFiles : {A : Type 0} → Refusing A → List ℕ → List SourceFile → (List Decl → A → Type 0) → A → Type 0
ByFiles Refuses root files next x =
    ((refusal : Answer) × IsFaultAnswer root files refusal × Refuses refusal x)
    ⊎ ((S : List Decl) × IsSchemaOf files S × next S x)

-- of two trees: the limit that the files of the first pass, or those of the second; else what comes of both
abbrev pub OverBoth : {A : Type 0} → Refusing A → Found (List SourceFile) → Found (List SourceFile)
    → (List SourceFile → List SourceFile → A → Type 0) → A → Type 0
OverBoth Refuses first second next x = FoundThen Refuses first (λ olds. FoundThen Refuses second (next olds)) x

-- of the files of two trees with their roots: what refuses the first comes before what refuses the second
abbrev pub ByBoth : {A : Type 0} → Refusing A → List ℕ → List SourceFile → List ℕ → List SourceFile
    → (List Decl → List Decl → A → Type 0) → A → Type 0
ByBoth Refuses first olds second news next x =
    ByFiles Refuses first olds (λ old. ByFiles Refuses second news (next old)) x

-- of the tree below a root
abbrev pub ByTree : {A : Type 0} → Refusing A → List ℕ → Found (List SourceFile) → (List Decl → A → Type 0) → A → Type 0
ByTree Refuses root tree next x = FoundThen Refuses tree (λ files. ByFiles Refuses root files next) x
