-- Why the files of a tree aren't parsed: each refusal says what is answered, and that no earlier one holds.
use Rattle.std.specs.Prelude.{◌≡◌, ◌≢◌, ℕ, ◌+◌, ◌⊎◌, List, [], ◌∷◌, Some, None}
use Rattle.std.specs.List.{All}
use Rattle.aidl_base.specs.declared.limit.LimitName.{LimitName}
use Rattle.aidl_base.specs.declared.source_file.SourceFile.{SourceFile}
use Rattle.aidl_syntax.specs.Faults as faults
use Rattle.aidl_lexer.specs.Naming.{number_of, offset_of}
use Rattle.tree_files.specs.declared.fault.LexBreach.{LexBreach}
use Rattle.tree_files.specs.declared.fault.FilesFault.{FilesFault}
use Rattle.tree_files.specs.declared.fault.FilesFault.TheVariants as fault
use Rattle.tree_files.specs.Files.{HasTokens, HasLimit, HasTree}
use Rattle.tree_files.specs.Sizes.{oversized}

-- the rows of files that are numbered from n on, in order: a file has a row, or it is good and has none
abbrev pub Rows : {A : Type 0} → (SourceFile → Type 0) → (ℕ → SourceFile → A → Type 0) → ℕ
    → List SourceFile → List A → Type 0
Rows IsGood IsRow n [] [] = Unit {0}
Rows IsGood IsRow n [] (r ∷ rs) = ⊥
Rows IsGood IsRow n (f ∷ fs) [] = IsGood f × Rows IsGood IsRow (n + 1) fs []
Rows IsGood IsRow n (f ∷ fs) (r ∷ rs) = (IsGood f × Rows IsGood IsRow (n + 1) fs (r ∷ rs))
    ⊎ (IsRow n f r × Rows IsGood IsRow (n + 1) fs rs)

-- a file without tokens: its number, and the fault that stands in its bytes
abbrev pub IsLexBreach : ℕ → SourceFile → LexBreach → Type 0
IsLexBreach n f b = (b.file ≡ n) × (number offset : ℕ) × (number_of b.fault ≡ Some number)
    × (offset_of b.fault ≡ Some offset) × faults.LexFault f.bytes number offset

-- a file without a tree: its number
abbrev pub IsTreeless : ℕ → SourceFile → ℕ → Type 0
IsTreeless n f k = (k ≡ n) × (HasTree f → ⊥)

-- the tokens of a file pass this limit, and those of no file before it pass one
abbrev pub FirstLimit : List SourceFile → LimitName → Type 0
FirstLimit [] which = ⊥
FirstLimit (f ∷ fs) which = HasLimit (Some which) f ⊎ (HasLimit None f × FirstLimit fs which)

abbrev pub IsRefusal : List SourceFile → FilesFault → Type 0
-- a limit on files; or none, all files have tokens, and this is the first limit on tokens
IsRefusal files (fault.Limit l) = (oversized files ≡ Some l.which)
    ⊎ ((oversized files ≡ None) × All HasTokens files × FirstLimit files l.which)
-- no limit on files, and these are the files without tokens, of which there are some
IsRefusal files (fault.Lex rows) = (oversized files ≡ None) × Rows HasTokens IsLexBreach 0 files rows × (rows ≢ [])
-- no limit on files, all files have tokens that pass no limit, and these are the files without a tree, of which
-- there are some
IsRefusal files (fault.Syntax rows) = (oversized files ≡ None) × All (HasLimit None) files
    × Rows HasTree IsTreeless 0 files rows × (rows ≢ [])
IsRefusal files fault.OutOfMemory = Unit {0}
