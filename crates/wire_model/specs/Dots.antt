-- A name cut at its last dot: what stands before it, and what stands behind it (own).
use Rattle.std.specs.Prelude.{ℕ, ◌==◌, if◌then◌else◌, List, [], ◌∷◌, Option, Some, None}

-- the same with a character before
abbrev pub behind : ℕ → Option (List ℕ × List ℕ) → Option (List ℕ × List ℕ)
behind c None = None
behind c (Some q) = Some (c ∷ q.0, q.1)

-- the first, or else the other one
abbrev pub or_else : Option (List ℕ × List ℕ) → Option (List ℕ × List ℕ) → Option (List ℕ × List ℕ)
or_else None other = other
or_else (Some q) other = Some q

-- what stands before the last dot, and what stands behind it
abbrev pub at_last_dot : List ℕ → Option (List ℕ × List ℕ)
at_last_dot [] = None
at_last_dot (c ∷ rest) = or_else (behind c (at_last_dot rest)) (if c == 46 then Some ([], rest) else None)
