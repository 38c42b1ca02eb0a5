use Rattle.std.proofs.Common.{◌≡◌, ℕ, [], length}
use Rattle.api_dump.specs.steps.Tables.{row_at}
use Rattle.api_dump.proofs.nesting.empty_rows.Given as goal

-- so many rows so far, and they are empty
abbrev pub invariant-loop : goal.invariant-loop
invariant-loop l = record { len : length l.rows.items ≡ l.counter; empty : (n : ℕ) → row_at l.rows.items n ≡ [] }
