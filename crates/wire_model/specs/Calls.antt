-- What a call is made of: the descriptor of an interface, and the types of a method's arguments, result and outs (own).
-- S is a schema's declarations, i the number of an interface, m a method.
use Rattle.std.specs.Prelude.{ℕ, ◌+◌, Bool, true, false, not, List, [], map, Option, Some, None, slice_get}
use Rattle.std.specs.List.{filter}
use Rattle.aidl_schema.specs.declared.schema.AidlType.{AidlType}
use Rattle.aidl_schema.specs.declared.schema.Arg.{Arg}
use Rattle.aidl_schema.specs.declared.schema.Decl.{Decl}
use Rattle.aidl_schema.specs.declared.schema.Direction.{Direction}
use Rattle.aidl_schema.specs.declared.schema.Direction.TheVariants.{In, Out, InOut}
use Rattle.aidl_schema.specs.declared.schema.Method.{Method}
use Rattle.aidl_schema.specs.Find.{methods_at}
use Rattle.aidl_schema.specs.Methods.{is_in_way}
use Rattle.aidl_schema.specs.Names.{name_of}
-- what a handler answers, and what a client makes of its reply
pub use Rattle.aidl_values.specs.AnswerData.{AnswerData, returned, exception, optional_view, answer_of}
use Rattle.wire_model.specs.MethodOf.{MethodOf}

abbrev pub name_of_decl : Option Decl → List ℕ
name_of_decl None = []
name_of_decl (Some d) = name_of d

-- an interface's descriptor is its canonical name
abbrev pub descriptor : List Decl → ℕ → List ℕ
descriptor S i = name_of_decl (slice_get S i)

-- how it is declared
abbrev pub method_at : MethodOf → Option Method
method_at m = slice_get (methods_at m.declarations m.interface) m.method

abbrev pub arguments_of : Option Method → List Arg
arguments_of None = []
arguments_of (Some w) = w.args

abbrev pub arguments : MethodOf → List Arg
arguments m = arguments_of (method_at m)

abbrev pub result_of : Option Method → Option AidlType
result_of None = None
result_of (Some w) = w.result

-- None is `void`
abbrev pub result_type : MethodOf → Option AidlType
result_type m = result_of (method_at m)

-- The transaction code of a method is 1 plus its id; 0 is nobody's.
abbrev pub code_of : Option Method → ℕ
code_of None = 0
code_of (Some w) = w.id + 1

abbrev pub code_at : MethodOf → ℕ
code_at m = code_of (method_at m)

abbrev pub is_oneway_of : Option Method → Bool
is_oneway_of None = false
is_oneway_of (Some w) = w.oneway

abbrev pub is_oneway : MethodOf → Bool
is_oneway m = is_oneway_of (method_at m)

-- an `out` argument: no value of it is sent
abbrev pub is_out : Direction → Bool
is_out In = false
is_out Out = true
is_out InOut = false

-- the types of these arguments' outs: each `out` and `inout` one comes back
abbrev pub outs_of : List Arg → List AidlType
outs_of xs = map (λ a. a.ty) (filter (λ a. not (is_in_way a.way)) xs)

abbrev pub out_types : MethodOf → List AidlType
out_types m = outs_of (arguments m)
