-- The values of a record's fields: those that were given, and the defaults of the others.
use Rattle.std.specs.Prelude.{ℕ, suc, ◌<◌, List, [], ◌∷◌, ◌++◌, drop, length, if◌then◌else◌, ◌==◌}
use Rattle.std.specs.List.{All}

-- each place is less than all those behind it
abbrev pub IsRising : List ℕ → Type 0
IsRising [] = Unit {0}
IsRising (p ∷ ps) = All (λ q. p < q) ps × IsRising ps

-- the places that a record's fields can have: they rise, and each has 32 bits
abbrev pub ArePlaces : List ℕ → Type 0
ArePlaces ps = IsRising ps × All (λ p. p < 4294967296) ps

-- the value given at a place, or else another
abbrev pub given_at : {T : Type 0} → List ℕ → List T → ℕ → T → T
given_at [] vs k other = other
given_at (p ∷ ps) [] k other = other
given_at (p ∷ ps) (v ∷ vs) k other = if p == k then v else given_at ps vs k other

-- values by their places from one on, of which some are given
abbrev pub overlaid : {T : Type 0} → List ℕ → List T → ℕ → List T → List T
overlaid ps vs k [] = []
overlaid ps vs k (d ∷ ds) = given_at ps vs k d ∷ overlaid ps vs (suc k) ds

-- values, and of the others those behind them
abbrev pub given_then : {T : Type 0} → List T → List T → List T
given_then given others = given ++ drop (length given) others
