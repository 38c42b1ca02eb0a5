use Rattle.std.proofs.Common.{◌≡◌, false, subst, ap, ◌∙◌}
use Rattle.aidl_values.specs.View.{view}
use Rattle.marshal_plans.specs.declared.plans.Plans.{Plans}
use Rattle.parcel_words.specs.Place.{is_inside, is_some_open, left}
use Rattle.parcel_words.specs.Taken.{TakesIfMemory}
use Rattle.parcel_read.specs.steps.PlanRead.{plan_read}
use Rattle.parcel_read.proofs.SameReads.{reads_same}
use Rattle.parcel_read.proofs.front.read_from.Goals as goal

pub returns-clause-taken : goal.returns-clause-taken
returns-clause-taken c = λ S t is.
    let P = c.args.plans.now in
    let p = c.args.from.now in
    let rest = left c.value_from.new.from in
    let planned = subst (λ (plans : Plans). TakesIfMemory view c.value_from.result (plan_read p.profile plans 64 c.args.id (is_inside p) (left p)) rest) c.new-plans.ensures c.value_from.ensures.taken in
    let outside : is_inside p ≡ false = ap is_some_open c.requires in
    subst (λ r. TakesIfMemory view c.value_from.result r rest)
    (ap (λ i. plan_read p.profile P 64 c.args.id i (left p)) outside ∙ reads_same S is.0 is.1 P is.2 p.profile 64 c.args.id t is.3 false (left p)) planned
