-- Which values are written by an id: those of the type for which it stands (own).
use Rattle.std.specs.Prelude.{ℕ, ◌<◌, ◌≤◌, ◌^◌, List, length}
use Rattle.aidl_schema.specs.declared.schema.AidlType.{AidlType}
use Rattle.aidl_schema.specs.declared.schema.Decl.{Decl}
use Rattle.aidl_values.specs.Data.{Data}
use Rattle.aidl_values.specs.Fits.{Fits}
use Rattle.marshal_plans.specs.declared.plans.PlanId.{PlanId}
use Rattle.marshal_plans.specs.declared.plans.Plans.{Plans}
use Rattle.marshal_plans.specs.Standing.{IsOf}
use Rattle.wire_model.specs.Spell.{spell}

-- The id stands for a type that the value fits.
abbrev pub FitsSome : Plans → PlanId → Data → Type 0
FitsSome plans id v = (S : List Decl) × (t : AidlType) × IsOf plans id S t × Fits S t v

-- The same, and there is room for so many bytes, which spell it.
abbrev pub FitsRoom : Plans → PlanId → Data → ℕ → Type 0
FitsRoom plans id v room = (S : List Decl) × (t : AidlType) × IsOf plans id S t × Fits S t v
    × (length (spell S t v) < 2 ^ 31) × (length (spell S t v) ≤ room)

-- P holds of each schema and type for which the id stands, and which the value fits.
abbrev pub OfEachFit : Plans → PlanId → Data → (List Decl → AidlType → Type 0) → Type 0
OfEachFit plans id v P = (S : List Decl) (t : AidlType) → IsOf plans id S t → Fits S t v → P S t
