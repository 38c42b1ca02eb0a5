-- Values that a table holds by texts of their own.
use Rattle.std.specs.Prelude.{◌≡◌, ℕ, List, [], ◌∷◌, map}

-- each value stands at its text
abbrev pub IsKeyed : {K X : Type 0} → (K → List ℕ) → (X → List ℕ) → List (K × X) → Type 0
IsKeyed text key [] = Unit {0}
IsKeyed text key (e ∷ es) = (text e.0 ≡ key e.1) × IsKeyed text key es

-- the values in the order of the table
abbrev pub values_at : {K X : Type 0} → List (K × X) → List X
values_at es = map (λ e. e.1) es
