use Rattle.std.proofs.Common.{◌≡◌, List, length, map, sym, subst}
use Rattle.aidl_values.specs.View.{view}
use Rattle.aidl_values.specs.declared.value.Value.{Value}
use Rattle.marshal_plans.specs.Standing.{entries_of}
use Rattle.parcel_read.specs.steps.PlanDefault.{initial_by_plan}
use Rattle.parcel_read.proofs.Kept.{kept}
use Rattle.parcel_read.proofs.parcel_plans.ParcelPlans.defaults_of.Goals as goal

pub invariant_of-self-2 : goal.invariant_of-self-2
invariant_of-self-2 c first =
    let P = c.self.inside.plans.now in
    let new = subst (λ (vs : List Value). map view vs ≡ map (λ g. initial_by_plan P g) (entries_of P.fields c.args.span.first (length vs))) (sym c.in_ok-clone.ensures.cases) c.in_ok-row-2.ensures.whole in
    kept (λ at row. map view row.value ≡ map (λ g. initial_by_plan P g) (entries_of P.fields at (length row.value))) c.args.span.first first _ _ _
    (c.in_ok-insert.ensures.updates.0 first) new (c.self.invariant first)
