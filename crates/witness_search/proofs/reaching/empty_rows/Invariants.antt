use Rattle.std.proofs.Common.{◌≡◌, ℕ, [], length}
use Rattle.witness_search.specs.ReachTables.{row_at}
use Rattle.witness_search.proofs.reaching.empty_rows.Given as goal

-- so many rows so far, and they are empty
abbrev pub invariant-loop : goal.invariant-loop
invariant-loop l = record { len : length l.rows.items ≡ l.counter; empty : (k : ℕ) → row_at l.rows.items k ≡ [] }
