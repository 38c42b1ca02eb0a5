-- *Wire breaches*: the rules that have a row, and their rows (own).
use Rattle.std.specs.Prelude.{◌==◌, ℕ, List, [], ◌∷◌, Option, Some, None, option_map}
use Rattle.std.specs.List.{find}
use Rattle.compat_witness.specs.Places.{at_slash}
use Rattle.compat_witness.specs.Rows.{Row, row_C2, row_C3, row_C4, row_C5, row_C6, row_C6_at, row_C7_at, row_C8}
use Rattle.compat_witness.specs.Rows.{row_C10, row_C11, row_C15, row_C16}

-- C6 at n.method, and at n.method/k by what stands before the slash
abbrev pub row_C6_by : Option (List ℕ × List ℕ) → Row
row_C6_by None old new p = row_C6 old new p
row_C6_by (Some q) old new p = row_C6_at old new q.0

abbrev pub row_C6_both : Row
row_C6_both old new p = row_C6_by (at_slash p) old new p

-- the rules that have a row
abbrev pub table : List (ℕ × Row)
table =
    (2, row_C2)
    ∷ (3, row_C3)
    ∷ (4, row_C4)
    ∷ (5, row_C5)
    ∷ (6, row_C6_both)
    ∷ (7, row_C7_at)
    ∷ (8, row_C8)
    ∷ (10, row_C10)
    ∷ (11, row_C11)
    ∷ (15, row_C15)
    ∷ (16, row_C16)
    ∷ []

-- the row of a rule, where the table has one
abbrev pub row_of : ℕ → Option Row
row_of rule = option_map (λ x. x.1) (find (λ x. x.0 == rule) table)
