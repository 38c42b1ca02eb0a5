use Rattle.std.proofs.Common.{◌≡◌, IfOk, sym, ap, ◌∙◌, subst}
use Rattle.aidl_values.specs.View.{view}
use Rattle.parcel_read.specs.steps.PlanDefault.{item_default, plan_default_parts}
use Rattle.parcel_read.proofs.Levels.{plan_default-parts}
use Rattle.parcel_read.proofs.default.+default.Goals as goal

pub default_within-returns : goal.default_within-returns
default_within-returns t c =
    let P = c.args.plans.now in
    let n = c.args.levels in
    let whole = ap (λ o. item_default (λ u. plan_default_parts n P u) P.fields o) c.item.ensures ∙ sym (plan_default-parts P n c.args.id) in
    subst (λ d. IfOk c.default_of_item.result (λ v. view v ≡ d)) whole c.default_of_item.ensures
