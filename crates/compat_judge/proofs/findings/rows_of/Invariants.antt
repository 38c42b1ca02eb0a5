use Rattle.std.proofs.Common.{◌≡◌, map}
use Rattle.compat_judge.specs.Seen.{seen}
use Rattle.compat_judge.specs.steps.Adds.{finding}
use Rattle.compat_judge.proofs.findings.rows_of.Given as goal

abbrev pub invariant-loop-finding : goal.invariant-loop-finding
invariant-loop-finding l = map seen l.rows.items ≡ map finding l.yielded
