use Rattle.std.proofs.Common.{◌≡◌, length, drop}
use Rattle.api_dump.specs.steps.Tables.{IsTableFrom}
use Rattle.api_dump.proofs.nesting.nesting.Given as goal

-- with the rows of what is left it is the table
abbrev pub invariant-loop-i : goal.invariant-loop-i
invariant-loop-i l = record { len : length l.rows.items ≡ length l.decls; table : IsTableFrom l.i (drop l.i l.decls) l.decls l.rows.items }
