-- Which ids stand for the types of the words.
use Rattle.std.specs.Prelude.{List}
use Rattle.aidl_schema.specs.declared.schema.AidlType.{AidlType}
use Rattle.aidl_schema.specs.declared.schema.Decl.{Decl}
use Rattle.marshal_plans.specs.declared.plans.Plans.{Plans}
use Rattle.marshal_plans.specs.Standing.{IsOf, OneForOne}

-- Each extra id of the plans stands for the type at its place.
abbrev pub ArePlanned : Plans → List Decl → List AidlType → Type 0
ArePlanned plans S types = OneForOne (λ t id. IsOf plans id S t) types plans.extras
