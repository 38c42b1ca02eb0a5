-- Which plans a call is made by: those that stand for its schema (own).
use Rattle.std.specs.Prelude.{List}
use Rattle.aidl_schema.specs.declared.schema.AidlType.{AidlType}
use Rattle.aidl_schema.specs.declared.schema.Decl.{Decl}
use Rattle.marshal_plans.specs.declared.plans.Plans.{Plans}
use Rattle.marshal_plans.specs.Standing.{StandFor}

-- The plans stand for the schema S, beside whatever extra types.
abbrev pub ArePlansOf : Plans → List Decl → Type 0
ArePlansOf plans S = (extra types : List AidlType) × StandFor S extra types plans
