-- Reading and defaults by levels, without cases on their number.
use Rattle.std.proofs.Common.{◌≡◌, ℕ, zero, suc, ◌<◌, ◌-◌, Bool, List, Some, None, Err, slice_get, refl, sym, ap, ◌∙◌, arith}
use Rattle.aidl_base.specs.declared.profile.Profile.{Profile}
use Rattle.aidl_values.specs.steps.Levels.{is_level_left}
use Rattle.wire_model.specs.Status.{bad_value}
use Rattle.marshal_plans.specs.declared.plans.PlanId.{PlanId}
use Rattle.marshal_plans.specs.declared.plans.PlanItem.{PlanItem}
use Rattle.marshal_plans.specs.declared.plans.Plans.{Plans}
use Rattle.parcel_read.specs.steps.PlanDefault.{item_default, plan_default, plan_default_parts, initial_by_plan}
use Rattle.parcel_read.specs.steps.PlanRead.{item_at, item_or_none_at, plan_read, plan_parts}

pub plan_read-parts : (p : Profile) (P : Plans) (d : ℕ) (id : PlanId) (inside : Bool) (b : List ℕ)
    → plan_read p P d id inside b ≡ item_or_none_at p (is_level_left d) (λ g. initial_by_plan P g) (λ u j c. plan_parts p P d u j c) P.fields (slice_get P.items id.0) inside b
unfolding plan_read
plan_read-parts p P zero id inside b = refl
plan_read-parts p P (suc d) id inside b = refl

module _ (p : Profile) (P : Plans) (d : ℕ) (id : PlanId) (inside : Bool) (b : List ℕ) where
  pub plan_read-item : (i : PlanItem) → slice_get P.items id.0 ≡ Some i
      → item_at p (is_level_left d) (λ g. initial_by_plan P g) (λ u j c. plan_parts p P d u j c) P.fields i inside b ≡ plan_read p P d id inside b
  plan_read-item i at =
      sym (plan_read-parts p P d id inside b ∙ ap (λ o. item_or_none_at p (is_level_left d) (λ g. initial_by_plan P g) (λ u j c. plan_parts p P d u j c) P.fields o inside b) at)

  pub plan_read-none : slice_get P.items id.0 ≡ None → plan_read p P d id inside b ≡ Err bad_value
  plan_read-none at =
      plan_read-parts p P d id inside b ∙ ap (λ o. item_or_none_at p (is_level_left d) (λ g. initial_by_plan P g) (λ u j c. plan_parts p P d u j c) P.fields o inside b) at

pub plan_parts-below : (p : Profile) (P : Plans) (d : ℕ) (id : PlanId) (inside : Bool) (b : List ℕ) → 0 < d → plan_parts p P d id inside b ≡ plan_read p P (d - 1) id inside b
plan_parts-below p P zero id inside b lt = absurd (omega arith)
plan_parts-below p P (suc d) id inside b lt = ap (λ k. plan_read p P k id inside b) (omega arith)

pub plan_default-parts : (P : Plans) (n : ℕ) (id : PlanId) → plan_default n P id ≡ item_default (λ u. plan_default_parts n P u) P.fields (slice_get P.items id.0)
unfolding plan_default
plan_default-parts P zero id = refl
plan_default-parts P (suc n) id = refl
