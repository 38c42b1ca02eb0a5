use Rattle.std.proofs.Common.{◌≡◌, ℕ, List, drop}
use Rattle.std.specs.Str.{bytes_eq}
use Rattle.indexmap.specs.IndexMap.{get_by}
use Rattle.name_tables.specs.steps.Tables.{place_from}
use Rattle.name_tables.proofs.name_table.places_of.Given as goal

-- the members from i on
abbrev pub invariant-loop-i : goal.invariant-loop-i
invariant-loop-i g l = (q : List ℕ) → get_by (λ k. bytes_eq q k.now) l.table ≡ place_from g.M.Called.called q l.i (drop l.i l.members)
