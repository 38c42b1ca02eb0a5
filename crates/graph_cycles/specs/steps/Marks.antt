-- What the searches keep, and what a certificate says.
use Rattle.std.specs.Prelude.{◌≡◌, ℕ, zero, suc, ◌+◌, ◌<◌, ◌≤◌, ◌⊎◌, Bool, true, false, List, [], ◌∷◌, length}
use Rattle.std.specs.Prelude.{slice_index}
use Rattle.graph_cycles.specs.Paths.{IsEdge, Leads, flag, targets}

-- each node that is marked is on a cycle
abbrev pub OnCycles : (ℕ → List ℕ) → List Bool → Type 0
OnCycles next xs = (n : ℕ) → flag xs n ≡ true → Leads next n n

-- a path leads from its root to each node that is marked
abbrev pub AfterRoots : (ℕ → List ℕ) → List ℕ → List Bool → Type 0
AfterRoots next roots xs = (n : ℕ) → flag xs n ≡ true → Leads next (slice_index roots n) n

-- a path leads from each node that is marked to its root
abbrev pub BeforeRoots : (ℕ → List ℕ) → List ℕ → List Bool → Type 0
BeforeRoots next roots xs = (n : ℕ) → flag xs n ≡ true → Leads next n (slice_index roots n)

-- There are roots from which paths lead to the nodes that are marked first, and to which paths lead from those
-- marked second.
abbrev pub HaveRoots : (ℕ → List ℕ) → List Bool → List Bool → Type 0
HaveRoots next after before = (roots : List ℕ) × AfterRoots next roots after × BeforeRoots next roots before

-- a path leads from m to each node that is marked
abbrev pub AfterNode : (ℕ → List ℕ) → ℕ → List Bool → Type 0
AfterNode next m xs = (n : ℕ) → flag xs n ≡ true → Leads next m n

-- m is this node, or a path leads from m to it
abbrev pub IsOrLeads : (ℕ → List ℕ) → ℕ → ℕ → Type 0
IsOrLeads next m n = (m ≡ n) ⊎ Leads next m n

-- No edge leads to a higher rank, and none that leaves a node without a mark to its own rank.
abbrev pub IsCertificate : (ℕ → List ℕ) → List ℕ → List Bool → Type 0
IsCertificate next ranks xs = (m n : ℕ) → IsEdge next m n
    → (slice_index ranks n ≤ slice_index ranks m) × (flag xs m ≡ false → slice_index ranks n < slice_index ranks m)

-- an edge that leaves m or a marked node leads to a marked node, or to none that has a flag
abbrev pub IsClosed : (ℕ → List ℕ) → ℕ → List Bool → Type 0
IsClosed next m xs = (i j : ℕ) → IsEdge next i j → (i ≡ m) ⊎ (flag xs i ≡ true) → j < length xs → flag xs j ≡ true

-- how many are false
abbrev pub unmarked : List Bool → ℕ
unmarked [] = zero
unmarked (true ∷ xs) = unmarked xs
unmarked (false ∷ xs) = suc (unmarked xs)

-- the number of nodes that have a row and are this node or one to which it leads: those that some flags mark
pub record IsRank (G : List (List ℕ)) (m rank : ℕ) : Type 0 where
  pub marks : List Bool
  pub len : length marks ≡ length G
  pub sound : (n : ℕ) → flag marks n ≡ true → IsOrLeads (targets G) m n
  pub whole : (n : ℕ) → n < length marks → IsOrLeads (targets G) m n → flag marks n ≡ true
  pub count : rank + unmarked marks ≡ length marks
