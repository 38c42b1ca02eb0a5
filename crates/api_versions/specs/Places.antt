-- Which version a file below an API belongs to (own): a file's first path part is the version's number, and isn't
-- its whole path.
use Rattle.std.specs.Prelude.{ℕ, ◌==◌, ◌&&◌, min, nat_lt, Bool, false, not, if◌then◌else◌, List, [], ◌∷◌, length}
use Rattle.std.specs.Prelude.{Option, Some, None}
use Rattle.std.specs.Char.{is_ascii_digit}
use Rattle.std.specs.List.{list_all, filter_map, position_or_len, before_first, after_first}
use Rattle.std.specs.Option.{option_map}
use Rattle.std.specs.Str.Parse.{digits_value}

-- a decimal number of 1 or more without a leading zero
abbrev pub is_number : List ℕ → Bool
is_number [] = false
is_number (d ∷ name) = not (d == 48) && list_all is_ascii_digit (d ∷ name)

-- the number that a name is, where it is one
abbrev pub number_of : List ℕ → Option ℕ
number_of name = if is_number name then Some (digits_value 10 name) else None

-- the number of a version, and a path relative to its folder
pub record Place : Type 0 where
  pub number : ℕ
  pub path : List ℕ

-- the place of a path whose first part is a number; what stands behind its `/` is relative to the folder
abbrev pub place_of : List ℕ → Option Place
place_of path =
    if nat_lt (position_or_len (λ b. b == 47) path) (length path)
    then option_map (λ n. record { number = n; path = after_first (λ b. b == 47) path })
    (number_of (before_first (λ b. b == 47) path))
    else None

-- the files that belong to versions; all others are left out
abbrev pub places : List (List ℕ) → List Place
places paths = filter_map place_of paths

-- a number above 9,999 is 10,000
abbrev pub bounded : Place → Place
bounded p = record p { number = min 10000 p.number }
