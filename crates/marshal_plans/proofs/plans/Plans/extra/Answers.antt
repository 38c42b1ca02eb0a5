use Rattle.std.proofs.Common.{◌≡◌, ◌<◌, Some, length, get_or, slice_get, sym, subst}
use Rattle.std.proofs.lemmas.Option.{slice_get-get_or}
use Rattle.marshal_plans.specs.declared.plans.PlanId.{PlanId}
use Rattle.marshal_plans.specs.Standing.{StandsFor}
use Rattle.marshal_plans.proofs.lemmas.Matching.{matched_with}
use Rattle.marshal_plans.proofs.plans.Plans.extra.Goals as goal

pub returns-clause-stands : goal.returns-clause-stands
returns-clause-stands c = λ S extra types stand t at.
    let ids = c.as_slice.result.now in
    let k = c.args.k in
    let none : PlanId = record { 0 = 0 } in
    let id = get_or ids k none in
    let within : k < length ids = subst (λ xs. k < length xs) (sym c.as_slice.ensures) c.requires in
    let there = subst (λ xs. slice_get xs k ≡ Some id) c.as_slice.ensures (slice_get-get_or ids k none within) in
    matched_with (λ u id. StandsFor types id u) extra c.args.self.now.extras k t id stand.extras at there
