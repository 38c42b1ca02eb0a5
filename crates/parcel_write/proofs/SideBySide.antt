-- The bytes of elements of which each takes as many.
use Rattle.std.proofs.Common.{◌≡◌, ℕ, suc, suc-mul, ◌+◌, ◌*◌, List, [], ◌∷◌, length, map, ap, ◌∙◌, arith, length-append}
use Rattle.aidl_values.specs.Data.{Data}
use Rattle.aidl_values.specs.View.{items_of}
use Rattle.marshal_plans.specs.declared.plans.PlanId.{PlanId}
use Rattle.marshal_plans.specs.declared.plans.Plans.{Plans}
use Rattle.parcel_write.specs.steps.PlanSpell.{plan_spell, plan_spell_items}

module _ {X : Type 0} (seen : X → Data) (P : Plans) (id : PlanId) (each : ℕ) (is : (x : X) → each ≡ length (plan_spell P id (seen x))) where
  pub length_each : (xs : List X) → length (plan_spell_items P id (items_of (map seen xs))) ≡ length xs * each
  length_each [] = omega arith
  length_each (x ∷ xs) =
      let front = length-append (plan_spell P id (seen x)) (plan_spell_items P id (items_of (map seen xs))) in
      let others = length_each xs in
      let product : suc (length xs) * each ≡ length xs * each + each = suc-mul (length xs) each in
      front ∙ omega (arith, others, is x, product)
