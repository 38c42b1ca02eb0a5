use Rattle.std.proofs.Common.{◌≡◌, drop}
use Rattle.const_eval.specs.Known.{are_given}
use Rattle.const_eval.proofs.given.are_given.Given as goal

-- what is left decides
abbrev pub invariant-loop-number : goal.invariant-loop-number
invariant-loop-number l = are_given l.outcomes (drop l.number-index l.numbers) ≡ are_given l.outcomes l.numbers
