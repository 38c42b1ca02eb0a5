use Rattle.std.proofs.Common.{◌<◌, ◌≤◌, length, sym, ap, ◌∙◌, arith}
use Rattle.const_eval.specs.Breaches as constants
use Rattle.const_eval.specs.Outcomes.{outcome_at}
use Rattle.type_check.specs.Stages.{constants_broken}
use Rattle.type_check.specs.Stages.AreBreaches.{of_constants}
use Rattle.type_check.proofs.Results.{empty, not-empty}
use Rattle.type_check.proofs.checking.of_gathered.Goals as goal

pub returns-then-len-gt0-clause-err : goal.returns-then-len-gt0-clause-err
unfolding constants_broken
returns-then-len-gt0-clause-err c =
    let some : 0 < length c.in_ok-faults.faults = let l = c.len.ensures in let p = c.if-len-gt0.true in omega arith in
    let accepted = c.law_accepted.ensures.accepted in
    let outcomes = c.in_ok-settled.settled.outcomes.items in (
      accepted.0,
      of_constants accepted.1 outcomes c.in_ok-settled.ensures.outcomes
          (c.in_ok-faults.ensures ∙ ap (constants.breaches (outcome_at outcomes)) c.in_ok-settled.ensures.items) (not-empty c.in_ok-faults.faults some),
    )

pub of_settled-requires-clause-constants : goal.of_settled-requires-clause-constants
unfolding constants_broken
of_settled-requires-clause-constants c =
    let none : length c.in_ok-faults.faults ≤ 0 = let l = c.len.ensures in let p = c.if-len-gt0.false in omega arith in
    let outcomes = c.in_ok-settled.settled.outcomes.items in
    sym (c.in_ok-faults.ensures ∙ ap (constants.breaches (outcome_at outcomes)) c.in_ok-settled.ensures.items) ∙ empty c.in_ok-faults.faults none
