-- The folders of an API's versions, by the paths of all files below it (own).
use Rattle.std.specs.Prelude.{ℕ, ◌-◌, ◌==◌, max, Bool, if◌then◌else◌, List, [], ◌∷◌, length, drop, map, Some, None}
use Rattle.std.specs.Prelude.{codes, bytes_eq}
use Rattle.std.specs.List.{filter, filter_map, list_any, range_with_len}
use Rattle.api_versions.specs.Places.{Place}

-- the number of a version; whether a file stands below its folder; the paths of its `.aidl` files, relative to it
pub record Folder : Type 0 where
  pub number : ℕ
  pub is_there : Bool
  pub sources : List (List ℕ)

abbrev pub ends_with : List ℕ → List ℕ → Bool
ends_with text end = bytes_eq (drop (length text - length end) text) end

-- the path is that of a file of AIDL
abbrev pub is_source : List ℕ → Bool
is_source path = ends_with path (codes ".aidl")

-- the files of a version, by their paths relative to its folder
abbrev pub paths_in : ℕ → List Place → List (List ℕ)
paths_in n places = filter_map (λ p. if p.number == n then Some p.path else None) places

-- the folder of a version: it is there where any file belongs to it, whatever its name
abbrev pub folder : List Place → ℕ → Folder
folder places n = record {
  number = n;
  is_there = list_any (λ p. p.number == n) places;
  sources = filter is_source (paths_in n places);
}

-- the highest version number, and 0 where there is no version
abbrev pub highest : List Place → ℕ
highest [] = 0
highest (p ∷ places) = max p.number (highest places)

-- the folders from 1 to the highest number
abbrev pub folders : List Place → List Folder
folders places = map (folder places) (range_with_len 1 (highest places))
