-- A value that fits a type can be written by its id, and is spelled as the type says.
use Rattle.std.proofs.Common.{◌≡◌, List, arith}
use Rattle.aidl_schema.specs.declared.schema.AidlType.{AidlType}
use Rattle.aidl_schema.specs.declared.schema.Decl.{Decl}
use Rattle.aidl_schema.proofs.lemmas.Counts.{depth_steady, nodes_steady}
use Rattle.aidl_schema.proofs.lemmas.Valids.{all_hold}
use Rattle.aidl_values.specs.Data.{Data}
use Rattle.aidl_values.specs.Fits.{Fits}
use Rattle.aidl_values.proofs.lemmas.Sounds.{is_sound}
use Rattle.marshal_plans.specs.declared.plans.PlanId.{PlanId}
use Rattle.marshal_plans.specs.declared.plans.Plans.{Plans}
use Rattle.marshal_plans.specs.Standing.{IsOf}
use Rattle.wire_model.specs.Spell.{spell}
use Rattle.wire_model.proofs.lemmas.Sound.{is_whole}
use Rattle.parcel_write.specs.steps.PlanSpell.{Suits, plan_spell}
use Rattle.parcel_write.proofs.SameSpellings.{same_spelling, suits}

module _ (S : List Decl) (t : AidlType) (P : Plans) (id : PlanId) (v : Data) (is : IsOf P id S t) (fits : Fits S t v) where
  pub spelled_as : plan_spell P id v ≡ spell S t v
  spelled_as = same_spelling S is.0 is.1 P is.2 id t v is.3 fits.typed

  pub suited : Suits P id v
  suited =
      let sound = is_sound S (all_hold S is.2.schema) (record { depth = depth_steady S; nodes = nodes_steady S }) in
      suits S is.0 is.1 P is.2 (λ u fs e. let few = ((is_whole S sound).tags u.base fs e).1 in omega (arith, few)) id t v is.3 fits.typed
