use Rattle.std.proofs.Common.{◌≡◌, ℕ, vec_len}
use Rattle.const_eval.specs.declared.outcome.Outcome.TheVariants.{Unjudged}
use Rattle.const_eval.specs.Outcomes.{outcome_at}
use Rattle.const_eval.proofs.given.none_known.Given as goal

abbrev pub invariant-loop : goal.invariant-loop
invariant-loop l = record { len : vec_len l.outcomes ≡ l.counter; none : (n : ℕ) → outcome_at l.outcomes.items n ≡ Unjudged }
