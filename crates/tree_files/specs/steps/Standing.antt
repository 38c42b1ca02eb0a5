-- What is found of the first files of a tree.
use Rattle.std.specs.Prelude.{◌≡◌, ℕ, Bool, nat_eq, ◌&&◌, List, [], ◌∷◌, ◌++◌, length, Option, Some, None}
use Rattle.std.specs.List.{All, AllZip}
use Rattle.std.specs.Option.{is_none}
use Rattle.aidl_base.specs.declared.limit.LimitName.{LimitName}
use Rattle.aidl_base.specs.declared.source_file.SourceFile.{SourceFile}
use Rattle.tree_files.specs.declared.fault.LexBreach.{LexBreach}
use Rattle.tree_files.specs.declared.found.Found.{Found}
use Rattle.tree_files.specs.Files.{HasTokens, HasLimit, HasTree, IsParsed}
use Rattle.tree_files.specs.Refusals.{Rows, IsLexBreach, IsTreeless, FirstLimit}

-- the first limit on tokens, if any
abbrev pub IsFirst : List SourceFile → Option LimitName → Type 0
IsFirst files None = All (HasLimit None) files
IsFirst files (Some which) = FirstLimit files which

-- each is what the files say, as long as nothing before it refuses them
pub record Stands (files : List SourceFile) (found : Found) : Type 0 where
  pub faults : Rows HasTokens IsLexBreach 0 files found.faults
  pub limit : found.faults ≡ [] → IsFirst files found.limit
  pub treeless : found.faults ≡ [] → found.limit ≡ None → Rows HasTree IsTreeless 0 files found.treeless
  pub parsed : found.faults ≡ [] → found.limit ≡ None → found.treeless ≡ [] → AllZip IsParsed files found.parsed

-- no file without tokens was found, and no limit
abbrev pub wants_trees : List LexBreach → Option LimitName → Bool
wants_trees faults limit = nat_eq (length faults) 0 && is_none limit

-- what is found next, once the file with this number is looked at
abbrev pub Extends : ℕ → SourceFile → Found → Found → Type 0
Extends n f old new = (files : List SourceFile) → length files ≡ n → Stands files old → Stands (files ++ f ∷ []) new
