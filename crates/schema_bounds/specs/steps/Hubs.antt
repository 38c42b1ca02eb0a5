-- A graph with one node more, the hub: each node on a cycle leads to it, and it leads to all.
use Rattle.std.specs.Prelude.{◌≡◌, ℕ, ◌<◌, Bool, if◌then◌else◌, List, [], ◌∷◌, ◌++◌, map, length, ◌⊎◌, Option, Some}
use Rattle.std.specs.Prelude.{None}
use Rattle.std.specs.List.{range_with_len}
use Rattle.graph_cycles.specs.Paths.{IsEdge, Leads, flag, targets}

-- the hub, where the flag is set
abbrev pub hub_if : Bool → ℕ → List ℕ
hub_if on hub = if on then hub ∷ [] else []

-- the rows with the hub behind them
abbrev pub with_hub : List (List ℕ) → List Bool → List (List ℕ)
with_hub G on = map (λ n. targets G n ++ hub_if (flag on n) (length G)) (range_with_len 0 (length G))
    ++ range_with_len 0 (length G) ∷ []

-- a node is on a cycle, or a path leads from it to one that is
abbrev pub LeadsToCycle : (ℕ → List ℕ) → ℕ → Type 0
LeadsToCycle next n = (m : ℕ) × ((n ≡ m) ⊎ Leads next n m) × Leads next m m

-- what may be a number, as a list
abbrev pub listed : Option ℕ → List ℕ
listed None = []
listed (Some n) = n ∷ []

-- each edge leads to a node that has a row
abbrev pub LeadInside : List (List ℕ) → Type 0
LeadInside G = (m n : ℕ) → IsEdge (targets G) m n → n < length G
