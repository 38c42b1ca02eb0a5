use Rattle.std.proofs.Common.{◌≡◌, reverse, drop}
use Rattle.parse_places.specs.steps.Places.{place_from, whole}
use Rattle.parse_places.proofs.placing.place.Given as goal

abbrev pub invariant-loop-place : goal.invariant-loop-place
invariant-loop-place l = place_from l.place (drop l.place l.tokens) (reverse l.stack.items) ≡ place_from 0 l.tokens whole
