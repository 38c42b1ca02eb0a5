-- Paths among the words (own).
use Rattle.std.specs.Prelude.{ℕ, Bool, not, ◌&&◌, ◌==◌, if◌then◌else◌, List, [], ◌∷◌, length, take, Option, Some}
use Rattle.std.specs.Prelude.{None, codes, bytes_eq}

-- neither empty nor does it start with `--`
unfoldable pub is_path : List ℕ → Bool
is_path word = not (length word == 0) && not (bytes_eq (take 2 word) (codes "--"))

-- exactly one path
abbrev pub one_path : List (List ℕ) → Option (List ℕ)
one_path [] = None
one_path (p ∷ []) = if is_path p then Some p else None
one_path (p ∷ q ∷ words) = None

-- exactly two
abbrev pub two_paths : List (List ℕ) → Option (List ℕ × List ℕ)
two_paths [] = None
two_paths (p ∷ []) = None
two_paths (p ∷ q ∷ []) = if is_path p && is_path q then Some (p, q) else None
two_paths (p ∷ q ∷ r ∷ words) = None

abbrev pub are_paths : List ℕ → List ℕ → List ℕ → Bool
are_paths p q r = is_path p && is_path q && is_path r

-- exactly three
abbrev pub three_paths : List (List ℕ) → Option (List ℕ × List ℕ × List ℕ)
three_paths [] = None
three_paths (p ∷ []) = None
three_paths (p ∷ q ∷ []) = None
three_paths (p ∷ q ∷ r ∷ []) = if are_paths p q r then Some (p, q, r) else None
three_paths (p ∷ q ∷ r ∷ s ∷ words) = None
