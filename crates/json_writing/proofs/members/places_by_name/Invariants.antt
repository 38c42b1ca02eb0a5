use Rattle.json_writing.proofs.Rows.{ArePlacedFrom}
use Rattle.json_writing.proofs.members.places_by_name.Given as goal

-- the fields from i on
abbrev pub invariant-loop-i : goal.invariant-loop-i
invariant-loop-i l = ArePlacedFrom l.fields l.i l.places.entries
