-- What plans have for the arguments of a method, one after the other.
use Rattle.std.specs.Prelude.{ℕ, ◌+◌, ◌<◌, List, [], ◌∷◌, Option, Some, None}
use Rattle.aidl_schema.specs.declared.schema.AidlType.{AidlType}
use Rattle.aidl_schema.specs.declared.schema.Arg.{Arg}
use Rattle.aidl_schema.specs.declared.schema.Decl.{Decl}
use Rattle.marshal_plans.specs.declared.plans.PlanId.{PlanId}
use Rattle.marshal_plans.specs.declared.plans.Plans.{Plans}
use Rattle.marshal_plans.specs.Places.{HasArgument, HasMethod, IsArgument, IsResult}
use Rattle.marshal_plans.specs.Standing.{IsOf}

-- The id that the plans have for argument k stands for its type.
pub record IsPlanned (plans : Plans) (S : List Decl) (i m k : ℕ) (a : Arg) : Type 0 where
  pub few : k < 255
  pub there : HasArgument plans i m k
  pub stands : (id : PlanId) → IsArgument plans i m k id → IsOf plans id S a.ty

-- the same of the arguments from k on
abbrev pub ArePlanned : Plans → List Decl → ℕ → ℕ → ℕ → List Arg → Type 0
ArePlanned plans S i m k [] = Unit {0}
ArePlanned plans S i m k (a ∷ rest) = IsPlanned plans S i m k a × ArePlanned plans S i m (k + 1) rest

-- There is an id exactly where there is a result, and it stands for its type.
abbrev pub IsResultOf : Plans → List Decl → Option AidlType → Option PlanId → Type 0
IsResultOf plans S None None = Unit {0}
IsResultOf plans S None (Some id) = ⊥
IsResultOf plans S (Some t) None = ⊥
IsResultOf plans S (Some t) (Some id) = IsOf plans id S t

-- the same of a method's result
pub record IsResultPlanned (plans : Plans) (S : List Decl) (i m : ℕ) (result : Option AidlType) : Type 0 where
  pub there : HasMethod plans i m
  pub stands : (id : Option PlanId) → IsResult plans i m id → IsResultOf plans S result id
