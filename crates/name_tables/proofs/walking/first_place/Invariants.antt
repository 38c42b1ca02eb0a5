use Rattle.std.proofs.Common.{◌≡◌, drop}
use Rattle.name_tables.specs.steps.Tables.{place_from}
use Rattle.name_tables.proofs.walking.first_place.Given as goal

-- what is left decides
abbrev pub invariant-loop-i : goal.invariant-loop-i
invariant-loop-i g l = place_from g.M.Called.called l.name l.i (drop l.i l.members) ≡ place_from g.M.Called.called l.name 0 l.members
