-- Values of the types of a method: what a handler is called with, and what a client is given.
use Rattle.std.specs.Prelude.{List, [], ◌∷◌, map, Option, Some, None}
use Rattle.aidl_schema.specs.declared.schema.AidlType.{AidlType}
use Rattle.aidl_schema.specs.declared.schema.Arg.{Arg}
use Rattle.aidl_schema.specs.declared.schema.Decl.{Decl}
use Rattle.aidl_values.specs.Data.{Data, Items, none, item}
use Rattle.aidl_values.specs.HasType.{HasType}
use Rattle.wire_model.specs.Calls.{AnswerData, returned, exception, arguments, result_type, out_types}
use Rattle.wire_model.specs.MethodOf.{MethodOf}

-- one value of each type
abbrev pub EachHasType : List Decl → List AidlType → Items → Type 0
EachHasType S [] none = Unit {0}
EachHasType S [] (item v vs) = ⊥
EachHasType S (t ∷ ts) none = ⊥
EachHasType S (t ∷ ts) (item v vs) = HasType S t v × EachHasType S ts vs

abbrev pub types_of : List Arg → List AidlType
types_of xs = map (λ a. a.ty) xs

-- what a handler is called with
abbrev pub AreArguments : MethodOf → Items → Type 0
AreArguments m vs = EachHasType m.declarations (types_of (arguments m)) vs

-- a value exactly where the method isn't void
abbrev pub IsResult : List Decl → Option AidlType → Option Data → Type 0
IsResult S None None = Unit {0}
IsResult S None (Some v) = ⊥
IsResult S (Some t) None = ⊥
IsResult S (Some t) (Some v) = HasType S t v

-- what a client is given: of a returned answer a result and outs of the method
abbrev pub IsGot : MethodOf → AnswerData → Type 0
IsGot m (returned r vs) =
    IsResult m.declarations (result_type m) r × EachHasType m.declarations (out_types m) vs
IsGot m (exception code message error) = Unit {0}
