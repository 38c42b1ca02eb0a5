-- What a store tells: the bytes at each path; what is read of them, and what is listed below a root (own).
use Rattle.std.specs.Prelude.{◌≡◌, ℕ, ◌+◌, ◌≤◌, ◌==◌, ◌&&◌, Bool, true, if◌then◌else◌, List, [], ◌∷◌, ◌++◌, length}
use Rattle.std.specs.Prelude.{take, Option, Some, None, Vec}
use Rattle.std.specs.List.{filter_map, list_all}
use Rattle.std.specs.Ordering.{nat_cmp, is_lt}
use Rattle.std.specs.Cmp.Lexicographic.{slice_cmp}
use Rattle.std.specs.FinMap.{FinMap, keys}
use Rattle.std.specs.declared.alloc.Global.{Global}

-- a map from the bytes of a path to the bytes of a file
abbrev pub Files : Type 0
Files = FinMap (slice_cmp nat_cmp) (List ℕ)

-- a file whole, or its first `most + 1` bytes
unfoldable pub front_of : ℕ → List ℕ → List ℕ
front_of most bytes = take (most + 1) bytes

-- what is read is the front of what stands there, or that nothing does
abbrev pub IsRead : ℕ → Option (List ℕ) → Option (Vec ℕ Global) → Type 0
IsRead most None None = Unit {0}
IsRead most None (Some bytes) = ⊥
IsRead most (Some file) None = ⊥
IsRead most (Some file) (Some bytes) = bytes.items ≡ front_of most file

-- what is read has at most `most + 1` bytes
abbrev pub IsWithin : ℕ → Option (Vec ℕ Global) → Type 0
IsWithin most None = Unit {0}
IsWithin most (Some bytes) = length bytes.items ≤ most + 1

-- a path below a folder is the folder, `/` and the relative path
abbrev pub path_below : List ℕ → List ℕ → List ℕ
path_below folder path = folder ++ 47 ∷ path

-- a path relative to a root: what follows the root and a `/`
abbrev pub below : List ℕ → List ℕ → Option (List ℕ)
below [] [] = None
below [] (p ∷ path) = if p == 47 then Some path else None
below (r ∷ root) [] = None
below (r ∷ root) (p ∷ path) = if p == r then below root path else None

-- the paths below a root, relative to it, sorted by bytes
abbrev pub listing : List ℕ → Files → List (List ℕ)
listing root files = filter_map (below root) (keys files)

-- each path comes before all later ones, by bytes
abbrev pub is_ascending : List (List ℕ) → Bool
is_ascending [] = true
is_ascending (path ∷ paths) = list_all (λ later. is_lt (slice_cmp nat_cmp path later)) paths && is_ascending paths
