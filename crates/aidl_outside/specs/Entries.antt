-- The files of a store in memory, as a map.
use Rattle.std.specs.Prelude.{ℕ, suc, ◌<◌, ◌≤◌, if◌then◌else◌, List, [], ◌∷◌, map, is_some, Option, Result, Ok, Err}
use Rattle.std.specs.Ordering.{nat_cmp}
use Rattle.std.specs.Cmp.Lexicographic.{slice_cmp}
use Rattle.std.specs.FinMap.{from_entries, from_sorted, contains_key, insert}
use Rattle.std.specs.FinMap.Entries.{find, put, by_order}
use Rattle.std.specs.Str.{encode_utf8_all}
use Rattle.aidl_base.specs.declared.source_file.SourceFile.{SourceFile}
use Rattle.aidl_outside.specs.Files.{Files}

-- a file's path, in bytes
abbrev pub path_of : SourceFile → List ℕ
path_of file = encode_utf8_all file.path

-- each path with the bytes there
abbrev pub entries : List SourceFile → List (List ℕ × List ℕ)
entries files = map (λ file. (path_of file, file.bytes)) files

-- the map of files in any order; where a path stands twice, the first file counts
abbrev pub files_of : List SourceFile → Files
files_of files = from_entries {R = slice_cmp nat_cmp} (entries files)

-- the map of files that are sorted by their paths
abbrev pub sorted_files : List SourceFile → Files
sorted_files files = from_sorted {R = slice_cmp nat_cmp} (entries files)

-- the bytes at a path
abbrev pub file_at : List ℕ → List (List ℕ × List ℕ) → Option (List ℕ)
file_at path es = find (slice_cmp nat_cmp) path es

-- the files with one more, where its path is new
abbrev pub with_new : Files → List ℕ → List ℕ → Files
with_new files path bytes = if contains_key files path then files else insert files path bytes

-- the entries with one more, where its path is new
abbrev pub put_new : List ℕ → List ℕ → List (List ℕ × List ℕ) → List (List ℕ × List ℕ)
put_new path bytes es = if is_some (file_at path es) then es else put (slice_cmp nat_cmp) path bytes es

-- one place later
abbrev pub later : Result ℕ ℕ → Result ℕ ℕ
later (Ok place) = Ok (suc place)
later (Err place) = Err (suc place)

-- the place of the entry with the path, or the place where it would go
abbrev pub place_in : List ℕ → List (List ℕ × List ℕ) → Result ℕ ℕ
place_in path [] = Err 0
place_in path (e ∷ es) = by_order (slice_cmp nat_cmp path e.0) (Err 0) (Ok 0) (later (place_in path es))

-- a place of an entry, or one where an entry can go
abbrev pub IsPlaceWithin : ℕ → Result ℕ ℕ → Type 0
IsPlaceWithin count (Ok place) = place < count
IsPlaceWithin count (Err place) = place ≤ count
