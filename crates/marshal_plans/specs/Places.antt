-- The ids that plans have for the places of a schema (own).
use Rattle.std.specs.Prelude.{◌≡◌, ℕ, List, Option, Some, None, slice_get, MatchOption}
use Rattle.aidl_schema.specs.declared.schema.AidlType.{AidlType}
use Rattle.aidl_schema.specs.declared.schema.Arg.{Arg}
use Rattle.aidl_schema.specs.declared.schema.Decl.{Decl}
use Rattle.aidl_schema.specs.declared.schema.Method.{Method}
use Rattle.aidl_schema.specs.Names.{methods_of}
use Rattle.aidl_schema.specs.Unbroken.{Has}
use Rattle.marshal_plans.specs.declared.plans.PlanId.{PlanId}
use Rattle.marshal_plans.specs.declared.plans.PlanStart.{PlanStart}
use Rattle.marshal_plans.specs.declared.plans.Plans.{Plans}
use Rattle.marshal_plans.specs.Standing.{StandFor, StandsFor}

-- w is method m of interface n
abbrev pub IsMethod : List Decl → ℕ → ℕ → Method → Type 0
IsMethod S n m w = (d : Decl) × (slice_get S n ≡ Some d) × (slice_get (methods_of d.kind) m ≡ Some w)

-- There is a start of this place with this id.
abbrev pub HasStart : List PlanStart → ℕ → ℕ → Option ℕ → PlanId → Type 0
HasStart starts n m place id = Has starts (record { interface = n; method = m; place = place; item = id })

-- It is the id of the start of this place, and None where no start is of it.
abbrev pub IsItemOfStart : List PlanStart → ℕ → ℕ → Option ℕ → Option PlanId → Type 0
IsItemOfStart starts n m place found =
    MatchOption found ((id : PlanId) → HasStart starts n m place id → ⊥) (λ id. HasStart starts n m place id)

-- The plans stand for a schema in which the method is there.
abbrev pub HasMethod : Plans → ℕ → ℕ → Type 0
HasMethod plans n m = (S : List Decl) × (extra types : List AidlType) × StandFor S extra types plans
    × (w : Method) × IsMethod S n m w

-- The plans stand for a schema in which the method has an argument k.
abbrev pub HasArgument : Plans → ℕ → ℕ → ℕ → Type 0
HasArgument plans n m k = (S : List Decl) × (extra types : List AidlType) × StandFor S extra types plans
    × (w : Method) × IsMethod S n m w
    × (a : Arg) × (slice_get w.args k ≡ Some a)

-- Whatever the plans stand for, the id stands for the type of argument k.
abbrev pub IsArgument : Plans → ℕ → ℕ → ℕ → PlanId → Type 0
IsArgument plans n m k id = (S : List Decl) (extra types : List AidlType) → StandFor S extra types plans
    → (w : Method) → IsMethod S n m w
    → (a : Arg) → slice_get w.args k ≡ Some a → StandsFor types id a.ty

-- There is an id exactly where there is a type, and it stands for it.
abbrev pub StandsForResult : List AidlType → Option AidlType → Option PlanId → Type 0
StandsForResult types None None = Unit {0}
StandsForResult types None (Some id) = ⊥
StandsForResult types (Some t) None = ⊥
StandsForResult types (Some t) (Some id) = StandsFor types id t

-- Whatever the plans stand for, it is the id of the method's result, None of a void method.
abbrev pub IsResult : Plans → ℕ → ℕ → Option PlanId → Type 0
IsResult plans n m id = (S : List Decl) (extra types : List AidlType) → StandFor S extra types plans
    → (w : Method) → IsMethod S n m w
    → StandsForResult types w.result id

-- Whatever the plans stand for, the id stands for extra type k.
abbrev pub IsExtra : Plans → ℕ → PlanId → Type 0
IsExtra plans k id = (S : List Decl) (extra types : List AidlType) → StandFor S extra types plans → (t : AidlType)
    → slice_get extra k ≡ Some t → StandsFor types id t
