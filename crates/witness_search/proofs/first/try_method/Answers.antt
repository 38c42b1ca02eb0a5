use Rattle.std.proofs.Common.{List, [], ◌∷◌, subst}
use Rattle.aidl_values.specs.declared.value.Value.{Value}
use Rattle.compat_witness.specs.Candidates.{Candidate}
use Rattle.witness_search.specs.steps.First.{IsFirst}
use Rattle.witness_search.specs.steps.Requests.{request_of}
use Rattle.witness_search.proofs.Firsts.{not_there}
use Rattle.witness_search.proofs.Trials.{both_are, short_there}
use Rattle.witness_search.proofs.first.try_method.Goals as goal

pub loop-value-preserved : goal.loop-value-preserved
loop-value-preserved c =
    let old = c.args.pair.now.old in
    let new = c.args.pair.now.new in
    let F : Value → List Candidate = λ v. request_of c.args.back c.args.reach.now v ∷ [] in
    let none = subst (λ o. IsFirst old new (F c.value-item.result) o) c.in_default.is c.in_ok-found.ensures.first in (
      λ r h. c.loop-value.invariant.0 r (not_there old new F c.args.values.now c.loop-value.value-index c.value-item.result c.loop-value-test.true c.value-item.is none r h),
      λ e k.
          let two = both_are c.loop-value.all_short c.in_ok-found.field-0.short e in
          c.loop-value.invariant.1 two.0 (short_there old new F c.args.values.now c.loop-value.value-index c.value-item.result c.loop-value-test.true c.value-item.is (c.in_ok-found.ensures.short two.1) k),
    )
