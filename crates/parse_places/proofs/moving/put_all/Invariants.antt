use Rattle.std.proofs.Common.{◌≡◌, ◌++◌}
use Rattle.parse_places.proofs.moving.put_all.Given as goal

abbrev pub invariant-loop-expected : goal.invariant-loop-expected
invariant-loop-expected l = l.stack.items ≡ l.initial.stack.items ++ l.yielded
