-- *Outcome*: what comes of a call between two schemas of which one is a legal evolution of the other, without a
-- word of bytes (own). a is the client's method, b the server's; A and B are the declarations of client and server, j
-- is the number of the server's interface.
use Rattle.std.specs.Prelude.{◌≡◌, ◌⊎◌, ℕ, ℤ, true, List, [], ◌∷◌, Option, Some, None, option_map, Result, Ok}
use Rattle.std.specs.Prelude.{if◌then◌else◌}
use Rattle.std.specs.List.{position}
use Rattle.aidl_schema.specs.declared.schema.AidlType.{AidlType}
use Rattle.aidl_schema.specs.declared.schema.Arg.{Arg}
use Rattle.aidl_schema.specs.declared.schema.Decl.{Decl}
use Rattle.aidl_schema.specs.declared.schema.Method.{Method}
use Rattle.aidl_schema.specs.Broken.{broken, same_name, same_method}
use Rattle.aidl_schema.specs.Find.{methods_at}
use Rattle.aidl_schema.specs.Names.{name_of, methods_of}
use Rattle.aidl_schema.specs.Same.{same_text}
use Rattle.aidl_schema.specs.Unbroken.{Has}
use Rattle.aidl_values.specs.Data.{Data, Items, none, item}
use Rattle.wire_model.specs.Calls.{AnswerData, returned, exception, descriptor, method_at, arguments, result_type}
use Rattle.wire_model.specs.Calls.{out_types, is_oneway, is_out}
use Rattle.wire_model.specs.MethodOf.{MethodOf, method_of}
use Rattle.wire_model.specs.ReadOf.{◌>>=◌}
use Rattle.wire_model.specs.Receiver.{Received, called, opening, opened_arguments, or_status}
use Rattle.wire_model.specs.Requests.{sent_length}
use Rattle.wire_model.specs.Status.{bad_value, unknown_transaction}
use Rattle.wire_model.specs.View.{view_of, item_first}

-- one of two schemas is a legal evolution of the other
abbrev pub OneFollows : List Decl → List Decl → Type 0
OneFollows A B = (broken A B ≡ []) ⊎ (broken B A ≡ [])

-- No code of an interface that both have is that of a oneway method in one and of a two-way method in the other.
abbrev pub SameWays : List Decl → List Decl → Type 0
SameWays A B = (d e : Decl) (v w : Method) → Has A d → Has B e → same_name d e ≡ true → Has (methods_of d.kind) v
    → Has (methods_of e.kind) w → v.id ≡ w.id → v.oneway ≡ w.oneway

-- the number of the declaration of a name
abbrev pub declared_as : List Decl → List ℕ → Option ℕ
declared_as S name = position (λ d. same_text name (name_of d)) S

-- the position of the method of the same name
abbrev pub method_like : Option Method → List Method → Option ℕ
method_like None ws = None
method_like (Some v) ws = position (λ w. same_method v w) ws

-- a call of the client's method a is one of the server's method b: interface and method have the same names
abbrev pub Reaches : MethodOf → MethodOf → Type 0
Reaches a b = (declared_as b.declarations (descriptor a.declarations a.interface) ≡ Some b.interface)
    × (method_like (method_at a) (methods_at b.declarations b.interface) ≡ Some b.method)

-- what the handler sees of an argument: the view of an `in` or `inout` one, the opening of an `out` one
abbrev pub view_argument : List Decl → Arg → List Decl → Arg → Data → Option Data
view_argument A a B b v = if is_out a.way then Some (opening B b.ty (sent_length v)) else view_of A a.ty B b.ty v

-- of all arguments; None if one of them has no view
abbrev pub view_arguments : List Decl → List Arg → List Decl → List Arg → Items → Option Items
view_arguments A (a ∷ xs) B (b ∷ ys) (item v vs) = item_first (view_argument A a B b v) (view_arguments A xs B ys vs)
view_arguments A (a ∷ xs) B (b ∷ ys) none = Some none
view_arguments A (a ∷ xs) B [] vs = Some none
view_arguments A [] B ys vs = Some none

-- what the interface j of the server receives: the position of its method, and what the handler sees
unfoldable pub seen_call : MethodOf → List Decl → ℕ → Items → Result (ℕ × Items) ℤ
seen_call a B j args = do
  -- UNKNOWN_TRANSACTION: B lacks the method
  n ← or_status unknown_transaction (method_like (method_at a) (methods_at B j))
  -- BAD_VALUE: an argument has no view
  saw ← or_status bad_value (view_arguments a.declarations (arguments a) B (arguments (method_of B j n)) args)
  Ok (n, saw)

-- the same as what a stub receives
abbrev pub received_call : MethodOf → List Decl → ℕ → Items → Result Received ℤ
received_call a B j args = do
  seen ← seen_call a B j args
  Ok (called seen.0 seen.1)

-- the views of values of these types; None if one of them has no view
abbrev pub view_values : List Decl → List AidlType → List Decl → List AidlType → Items → Option Items
view_values B (t ∷ ts) A (u ∷ us) (item v vs) = item_first (view_of B t A u v) (view_values B ts A us vs)
view_values B (t ∷ ts) A (u ∷ us) none = Some none
view_values B (t ∷ ts) A [] vs = Some none
view_values B [] A us vs = Some none

-- of a result, where there is one
abbrev pub view_result : List Decl → Option AidlType → List Decl → Option AidlType → Option Data → Option (Option Data)
view_result B (Some t) A (Some u) (Some v) = option_map (λ w. Some w) (view_of B t A u v)
view_result B (Some t) A (Some u) None = Some None
view_result B (Some t) A None r = Some None
view_result B None A u r = Some None

-- what the client has of the answer of the server's method: the same exception, or the client's views of the result
-- and of the outs
abbrev pub seen_answer : MethodOf → MethodOf → AnswerData → Result AnswerData ℤ
seen_answer b a (exception code message error) = Ok (exception code message error)
seen_answer b a (returned result outs) = do
  r ← or_status bad_value (view_result b.declarations (result_type b) a.declarations (result_type a) result)
  vs ← or_status bad_value (view_values b.declarations (out_types b) a.declarations (out_types a) outs)
  Ok (returned r vs)

-- what the handler sees of a oneway call; and of another call that and what the client has, which may be a status
pub data Done : Type 0 where
  oneway : (saw : Items) → Done
  done : (saw : Items) → (client : Result AnswerData ℤ) → Done

-- *Outcome*: the transport status, or what the two sides have; B's handler answers `answer`
unfoldable pub outcome : MethodOf → List Decl → Items → AnswerData → Result Done ℤ
outcome a B args answer = do
  -- UNKNOWN_TRANSACTION: B lacks the interface
  j ← or_status unknown_transaction (declared_as B (descriptor a.declarations a.interface))
  seen ← seen_call a B j args
  Ok (if is_oneway (method_of B j seen.0) then oneway seen.1
      else done seen.1 (seen_answer (method_of B j seen.0) a answer))

-- within one schema: the handler sees what was sent, with the openings of the `out` arguments, and the client has
-- what was answered
abbrev pub outcome_within : MethodOf → Items → AnswerData → Done
outcome_within m args answer =
    if is_oneway m then oneway (opened_arguments m.declarations (arguments m) args)
    else done (opened_arguments m.declarations (arguments m) args) (Ok answer)
