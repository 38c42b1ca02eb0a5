use Rattle.std.proofs.Common.{◌≡◌, drop}
use Rattle.api_freeze.specs.steps.Following.{are_same}
use Rattle.api_freeze.proofs.following.are_same.Given as goal

abbrev pub invariant-loop-i : goal.invariant-loop-i
invariant-loop-i l = are_same (drop l.i l.first) (drop l.i l.second) ≡ are_same l.first l.second
