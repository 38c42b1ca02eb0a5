use Rattle.std.proofs.Common.{◌<◌, ◌≤◌, length, map, sym, ap, ◌∙◌, arith}
use Rattle.aidl_syntax.specs.Sources.{source_of}
use Rattle.const_eval.specs.Outcomes.{outcome_at}
use Rattle.type_check.specs.Stages.{schema_by, types_broken}
use Rattle.type_check.specs.Stages.AreBreaches.{of_types}
use Rattle.type_check.proofs.Joined.{few-of}
use Rattle.type_check.proofs.Results.{empty, not-empty}
use Rattle.type_check.proofs.checking.of_settled.Goals as goal

pub types_broken-requires-clause-few : goal.types_broken-requires-clause-few
types_broken-requires-clause-few c =
    let few = few-of _ (c.law_named.ensures.limits (outcome_at c.args.settled.now.outcomes.items)) in
    let same = ap length (c.as_slice.ensures ∙ c.in_ok-decls.ensures) in
    omega arith

pub returns-then-len-gt0-clause-err : goal.returns-then-len-gt0-clause-err
unfolding schema_by
returns-then-len-gt0-clause-err c =
    let some : 0 < length c.in_ok-broken.broken = let l = c.len.ensures in let p = c.if-len-gt0.true in omega arith in
    let accepted = c.law_accepted.ensures.accepted in (
      accepted.0,
      of_types accepted.1 c.args.settled.now.outcomes.items c.requires.outcomes c.requires.constants
          (c.in_ok-broken.ensures ∙ ap (types_broken (map source_of c.args.names.now)) (c.as_slice.ensures ∙ c.in_ok-decls.ensures)) (not-empty c.in_ok-broken.broken some),
    )

pub schema-requires : goal.schema-requires
unfolding schema_by
schema-requires c =
    let none : length c.in_ok-broken.broken ≤ 0 = let l = c.len.ensures in let p = c.if-len-gt0.false in omega arith in
    record {
      names = c.law_accepted.ensures.accepted;
      outcomes = c.args.settled.now.outcomes.items;
      judged = c.requires.outcomes;
      constants = c.requires.constants;
      types = ap (types_broken (map source_of c.args.names.now)) (sym (c.as_slice.ensures ∙ c.in_ok-decls.ensures)) ∙ sym c.in_ok-broken.ensures ∙ empty c.in_ok-broken.broken none;
      exact = c.in_ok-decls.ensures;
    }
