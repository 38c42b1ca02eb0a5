-- Which methods reach a declaration, interface by interface, and the table of them. A is the client's declarations,
-- B the server's, k the number of the declaration in A.
use Rattle.std.specs.Prelude.{◌≡◌, ℕ, ◌+◌, ◌<◌, Bool, if◌then◌else◌, List, [], ◌∷◌, ◌++◌, length}
use Rattle.std.specs.Prelude.{map, Option}
use Rattle.aidl_schema.specs.declared.schema.Decl.{Decl}
use Rattle.aidl_schema.specs.declared.schema.Method.{Method}
use Rattle.aidl_schema.specs.Find.{methods_at}
use Rattle.compat_witness.specs.Reaching.{is_at, reaches}
use Rattle.witness_search.specs.Asked.{method_seen}
use Rattle.witness_search.specs.ReachTables.{row_at}
use Rattle.witness_search.specs.declared.candidates.Reach.{Reach}

-- of the methods from the position m on, those that pass a test
abbrev pub reached_from : ℕ → (Method → Bool) → ℕ → List Method → List (ℕ × ℕ)
reached_from m test i [] = []
reached_from m test i (v ∷ vs) = (if test v then (i, m) ∷ [] else []) ++ reached_from (m + 1) test i vs

-- the methods of the interface of the number i that reach it
abbrev pub reached_in : List Decl → ℕ → List Decl → ℕ → List (ℕ × ℕ)
reached_in A k B i = reached_from 0 (λ v. reaches A k B i v) i (methods_at A i)

-- one method, where it is of this number
abbrev pub one_at : Reach → Option ℕ → ℕ → List Reach
one_at r number k = if is_at k number then r ∷ [] else []

-- A method is added to the row of one number, where there is one, and other rows stay.
abbrev pub IsAdded : Reach → Option ℕ → List (List Reach) → List (List Reach) → Type 0
IsAdded r number old new = (k : ℕ) → k < length old → row_at new k ≡ row_at old k ++ one_at r number k

-- Methods are added to each row.
abbrev pub AreAdded : (ℕ → List (ℕ × ℕ)) → List (List Reach) → List (List Reach) → Type 0
AreAdded more old new = (k : ℕ) → k < length old
    → map method_seen (row_at new k) ≡ map method_seen (row_at old k) ++ more k
