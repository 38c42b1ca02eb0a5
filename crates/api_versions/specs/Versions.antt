-- The versions of an API as a store tells them: exactly its version folders, or the first refusal (own).
use Rattle.std.specs.Prelude.{◌≡◌, ℕ, nat_lt, Bool, map, if◌then◌else◌, List, [], ◌∷◌, ◌++◌, length, Option, Some}
use Rattle.std.specs.Prelude.{None, Result, Ok, Err, codes}
use Rattle.std.specs.Fmt.{decimal}
use Rattle.std.specs.FinMap.{get}
use Rattle.std.specs.List.{filter, list_all, list_any, range_with_len}
use Rattle.std.specs.Str.{chars}
use Rattle.aidl_base.specs.declared.limit.LimitName.{LimitName}
use Rattle.aidl_base.specs.declared.limit.LimitName.TheVariants as limit
use Rattle.aidl_base.specs.declared.source_file.SourceFile.{SourceFile}
use Rattle.aidl_base.specs.Limits.{limit_number}
use Rattle.aidl_base.specs.Results.{◌>>=◌}
use Rattle.aidl_outside.specs.Entries.{path_of}
use Rattle.aidl_outside.specs.Files.{Files, is_ascending, listing, path_below}
use Rattle.api_versions.specs.declared.fault.VersionsFault.{VersionsFault}
use Rattle.api_versions.specs.declared.fault.VersionsFault.TheVariants as fault
use Rattle.api_versions.specs.declared.version.Version.{Version}
use Rattle.api_versions.specs.Folders.{Folder, folders, highest}
use Rattle.api_versions.specs.Places.{Place, places}

abbrev pub passed : LimitName → VersionsFault
passed which = fault.Limit (record { which = which })

-- the folder of a version has its number in decimal as its name
abbrev pub version_folder : List ℕ → ℕ → List ℕ
version_folder api number = path_below api (decimal number)

abbrev pub hash_path : List ℕ → ℕ → List ℕ
hash_path api number = path_below (version_folder api number) (codes ".hash")

-- a file, if any, that doesn't pass the limit `file-bytes`
abbrev pub within : Option (List ℕ) → Result (Option (List ℕ)) VersionsFault
within None = Ok None
within (Some bytes) = if nat_lt (limit_number limit.FileBytes) (length bytes) then Err (passed limit.FileBytes)
    else Ok (Some bytes)

-- the file at a path of a store, if any
abbrev pub file_at : Files → List ℕ → Result (Option (List ℕ)) VersionsFault
file_at files path = within (get files path)

-- A source with its path relative to the folder. What a store lists is there, so none is left out of what it tells.
abbrev pub source : List ℕ → Option (List ℕ) → List SourceFile
source path None = []
source path (Some bytes) = record { path = chars path; bytes = bytes } ∷ []

-- the files at some paths below a folder
abbrev pub sources_at : Files → List ℕ → List (List ℕ) → Result (List SourceFile) VersionsFault
sources_at files folder [] = Ok []
sources_at files folder (path ∷ paths) = do
  file ← file_at files (path_below folder path)
  others ← sources_at files folder paths
  Ok (source path file ++ others)

-- the version in a folder: its `.aidl` files, and what its `.hash` keeps
abbrev pub version_at : Files → List ℕ → Folder → Result Version VersionsFault
version_at files api f = do
  sources ← sources_at files (version_folder api f.number) f.sources
  kept ← file_at files (hash_path api f.number)
  Ok (record { number = f.number; files = sources; kept = kept })

-- those of some folders, in order
abbrev pub versions_in : Files → List ℕ → List Folder → Result (List Version) VersionsFault
versions_in files api [] = Ok []
versions_in files api (f ∷ fs) = do
  version ← version_at files api f
  others ← versions_in files api fs
  Ok (version ∷ others)

-- no number above 9,999
abbrev pub numbered : List Place → Result (List Folder) VersionsFault
numbered places = if nat_lt (limit_number limit.Versions) (highest places) then Err (passed limit.Versions)
    else Ok (folders places)

-- more `.aidl` files than the limit `files`
abbrev pub is_large : Folder → Bool
is_large f = nat_lt (limit_number limit.Files) (length f.sources)

-- no folder is too large
abbrev pub few : List Folder → Result (List Folder) VersionsFault
few fs = if list_any is_large fs then Err (passed limit.Files) else Ok fs

-- the least number, if any, of a folder that isn't there
abbrev pub missing : List Folder → Option ℕ
missing [] = None
missing (f ∷ fs) = if f.is_there then missing fs else Some f.number

-- the folders that are there
abbrev pub present : List Folder → List Folder
present fs = filter (λ f. f.is_there) fs

-- the versions, where no number is missing
abbrev pub complete : Option ℕ → List Version → Result (List Version) VersionsFault
complete None versions = Ok versions
complete (Some number) versions = Err (fault.BadVersions number)

-- the folders, or the limit that is passed: `versions`, then `files`
abbrev pub folders_in : List (List ℕ) → Result (List Folder) VersionsFault
folders_in paths = do
  all ← numbered (places paths)
  few all

-- the versions in these folders; else the limit `file-bytes`, and then the least number that is missing
abbrev pub all_in : Files → List ℕ → List Folder → Result (List Version) VersionsFault
all_in files api fs = do
  versions ← versions_in files api (present fs)
  complete (missing fs) versions

-- The versions. The limits come before a missing number: `versions`, `files`, `file-bytes`, each over all versions.
abbrev pub versions_at : Files → List ℕ → Result (List Version) VersionsFault
versions_at files api = do
  fs ← folders_in (listing api files)
  all_in files api fs

-- the numbers are 1 to n, in order
abbrev pub AreNumbered : List Version → Type 0
AreNumbered versions = map (λ (v : Version). v.number) versions ≡ range_with_len 1 (length versions)

-- the paths of each version's files strictly ascend by bytes, so they differ
abbrev pub are_ascending : List Version → Bool
are_ascending versions = list_all (λ (v : Version). is_ascending (map path_of v.files)) versions
