-- What adding one path does to the folders.
use Rattle.std.specs.Prelude.{◌≡◌, ℕ, ◌==◌, ◌||◌, ◌++◌, true, false, if◌then◌else◌, List, [], ◌∷◌, length, map}
use Rattle.std.specs.Prelude.{Option, Some, None}
use Rattle.std.specs.List.{filter, list_any, range_with_len}
use Rattle.api_versions.specs.Folders.{Folder, is_source, paths_in}
use Rattle.api_versions.specs.Places.{Place}

-- a folder without files
abbrev pub no_folder : ℕ → Folder
no_folder n = record { number = n; is_there = false; sources = [] }

-- a folder with one file more
abbrev pub with_path : List ℕ → Folder → Folder
with_path path f = record { number = f.number; is_there = true; sources = f.sources ++ filter is_source (path ∷ []) }

-- the same, where the file belongs to it
abbrev pub with_place : Option Place → Folder → Folder
with_place None f = f
with_place (Some p) f = if p.number == f.number then with_path p.path f else f

-- a folder with all the files of some places that belong to it
abbrev pub with_places : List Place → Folder → Folder
with_places places f = record {
  number = f.number;
  is_there = f.is_there || list_any (λ p. p.number == f.number) places;
  sources = f.sources ++ filter is_source (paths_in f.number places);
}

-- folders are numbered from 1 on
abbrev pub AreNumbered : List Folder → Type 0
AreNumbered fs = map (λ f. f.number) fs ≡ range_with_len 1 (length fs)

-- the number of a place, and 0 of none
abbrev pub number_or_zero : Option Place → ℕ
number_or_zero None = 0
number_or_zero (Some p) = p.number
