-- The files of a tree: those below its root whose paths end in `.aidl`, in the order of their paths (own).
use Rattle.std.specs.Prelude.{ℕ, ◌≤◌, nat_lt, Bool, if◌then◌else◌, List, [], ◌∷◌, ◌++◌, length, All}
use Rattle.std.specs.Prelude.{Option, Some, None, Result, Ok, Err, codes}
use Rattle.std.specs.List.{filter}
use Rattle.std.specs.Str.{chars}
use Rattle.aidl_base.specs.declared.limit.Limit.{Limit}
use Rattle.aidl_base.specs.declared.limit.LimitName.TheVariants as limit
use Rattle.aidl_base.specs.declared.source_file.SourceFile.{SourceFile}
use Rattle.aidl_base.specs.Limits.{limit_number}
use Rattle.aidl_base.specs.Results.{◌>>=◌}
use Rattle.aidl_outside.specs.Files.{Files, listing, path_below}
use Rattle.tool_words.specs.Entries.{ends_with}
use Rattle.tool_frame.specs.Answer.{Found, limit_passed}
use Rattle.tool_frame.specs.Refusals.{file_at}

-- the path is that of a file of AIDL
abbrev pub is_source : List ℕ → Bool
is_source path = ends_with path (codes ".aidl")

-- the paths of such files below a root, relative to it, sorted by bytes
abbrev pub sources_below : List ℕ → Files → List (List ℕ)
sources_below root files = filter is_source (listing root files)

-- paths that don't pass the limit `files`
abbrev pub few : List (List ℕ) → Found (List (List ℕ))
few paths = if nat_lt (limit_number limit.Files) (length paths) then Err (limit_passed limit.Files) else Ok paths

-- The file at a listed path, with that path as a text, or the limit that it passes. Where nothing stands there, it is
-- left out; of what a store tells that is never so, since it lists what it holds.
abbrev pub file_found : List ℕ → Option (Found (List ℕ)) → Found (List SourceFile)
file_found path None = Ok []
file_found path (Some (Ok bytes)) = Ok (record { path = chars path; bytes = bytes } ∷ [])
file_found path (Some (Err passed)) = Err passed

-- the files at some paths below a root, up to the first that passes the limit `file-bytes`
abbrev pub files_at : Files → List ℕ → List (List ℕ) → Found (List SourceFile)
files_at files root [] = Ok []
files_at files root (path ∷ paths) = do
  first ← file_found path (file_at limit.FileBytes files (path_below root path))
  others ← files_at files root paths
  Ok (first ++ others)

-- the files of the tree below a root, with their paths relative to it
abbrev pub tree_at : Files → List ℕ → Found (List SourceFile)
tree_at files root = do
  paths ← few (sources_below root files)
  files_at files root paths

-- files that were loaded, or the limit that was passed
abbrev pub tree_seen : Result (List SourceFile) Limit → Found (List SourceFile)
tree_seen (Ok files) = Ok files
tree_seen (Err limit) = Err (limit_passed limit.which)

-- no file passes the limit `file-bytes`
abbrev pub AreShort : List SourceFile → Type 0
AreShort files = All (λ (file : SourceFile). length file.bytes ≤ limit_number limit.FileBytes) files
