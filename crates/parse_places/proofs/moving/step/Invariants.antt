use Rattle.std.proofs.Common.{◌≡◌, reverse, length}
use Rattle.parse_places.specs.steps.Moves as moves
use Rattle.parse_places.proofs.moving.step.Given as goal

abbrev pub invariant-loop-expected : goal.invariant-loop-expected
invariant-loop-expected l = moves.step (reverse l.stack.items) l.terminal ≡ moves.step (reverse l.initial.stack.items) l.terminal

abbrev pub decreases-loop-expected : goal.decreases-loop-expected
decreases-loop-expected l = length l.stack.items
