-- *Compared sides*: what is read of a shown call, and what the call is projected to (own). a is the client's method,
-- b the server's; A and B are the declarations of client and server. All reading is strict.
use Rattle.std.specs.Prelude.{ℕ, ℤ, ◌&&◌, if◌then◌else◌, List, [], ◌∷◌, Option, Some, None, option_map, Result, Ok, Err}
use Rattle.aidl_base.specs.declared.profile.Profile.TheVariants.{Strict}
use Rattle.aidl_schema.specs.declared.schema.AidlType.{AidlType}
use Rattle.aidl_schema.specs.declared.schema.Arg.{Arg}
use Rattle.aidl_schema.specs.declared.schema.Decl.{Decl}
use Rattle.aidl_schema.specs.Find.{methods_at}
use Rattle.aidl_schema.specs.Methods.{is_in_way}
use Rattle.aidl_schema.specs.Same.{same}
use Rattle.aidl_values.specs.Data.{Data, Items, none, item}
use Rattle.wire_model.specs.Calls.{AnswerData, returned, exception, descriptor, method_at, arguments, result_type}
use Rattle.wire_model.specs.Calls.{code_at, is_oneway, is_out}
use Rattle.wire_model.specs.MethodOf.{MethodOf, method_of}
use Rattle.wire_model.specs.Outcome.{declared_as, method_like}
use Rattle.wire_model.specs.ReadOf.{◌>>=◌}
use Rattle.wire_model.specs.Receiver.{Received, zero_in, opening, or_status, stub}
use Rattle.wire_model.specs.Receiver as receiver
use Rattle.wire_model.specs.Requests.{sent_length}
use Rattle.wire_model.specs.Status.{bad_value, unknown_transaction}
use Rattle.wire_model.specs.View.{view_of, item_first}

-- One side: of a request the status that refuses it, the method for which bytes are left over, or the method that
-- is called with what it sees; of a reply what the client has, an answer or a status, or that there is none.
pub data Side : Type 0 where
  transport : (status : ℤ) → Side
  left : (method : ℕ) → Side
  called : (method : ℕ) → (saw : Items) → Side
  client : (got : Result AnswerData ℤ) → Side
  no_reply : Side

-- what a stub makes of a request, as a side
abbrev pub side_of : Result Received ℤ → Side
side_of (Err status) = transport status
side_of (Ok (receiver.left n)) = left n
side_of (Ok (receiver.called n saw)) = called n saw

-- What is read

-- what the interface of a name makes of a request; UNKNOWN_TRANSACTION where there is none
abbrev pub received_by : List Decl → Option ℕ → ℕ → List ℕ → Result Received ℤ
received_by B None code b = Err unknown_transaction
received_by B (Some j) code b = stub Strict B j code b

-- the stub of the server's interface of that name, asked by the code of the client's method
abbrev pub read_request : MethodOf → List Decl → List ℕ → Side
read_request a B bytes =
    side_of (received_by B (declared_as B (descriptor a.declarations a.interface)) (code_at a) bytes)

-- of a oneway method there is no reply
abbrev pub read_reply : MethodOf → MethodOf → List ℕ → Side
read_reply a b bytes = if is_oneway b then no_reply else client (receiver.client Strict a bytes)

-- What a request is projected to

-- What the server's method sees of an argument at a position that both methods have: the view of an `in` or `inout`
-- one of both; the opening of an `out` one of both, where the types are the same; and else the default.
abbrev pub projected_argument : List Decl → Arg → List Decl → Arg → Data → Option Data
projected_argument A a B b v = if is_out b.way
    then Some (if is_out a.way && same A a.ty B b.ty then opening B b.ty (sent_length v) else zero_in B b.ty)
    else (if is_out a.way then Some (zero_in B b.ty) else view_of A a.ty B b.ty v)

-- of all arguments of the server's method, by position; where the client has no argument, the default
abbrev pub projected_arguments : List Decl → List Arg → List Decl → List Arg → Items → Option Items
projected_arguments A xs B [] vs = Some none
projected_arguments A [] B (b ∷ ys) vs = item_first (Some (zero_in B b.ty)) (projected_arguments A [] B ys vs)
projected_arguments A (a ∷ xs) B (b ∷ ys) none = item_first (Some (zero_in B b.ty)) (projected_arguments A xs B ys none)
projected_arguments A (a ∷ xs) B (b ∷ ys) (item v vs) =
    item_first (projected_argument A a B b v) (projected_arguments A xs B ys vs)

-- by the names of interface and method
unfoldable pub projected_call : MethodOf → List Decl → Items → Result Received ℤ
projected_call a B args = do
  -- UNKNOWN_TRANSACTION: the server lacks the interface,
  j ← or_status unknown_transaction (declared_as B (descriptor a.declarations a.interface))
  n ← or_status unknown_transaction (method_like (method_at a) (methods_at B j))  -- or the method
  -- BAD_VALUE: an argument has no view
  saw ← or_status bad_value (projected_arguments a.declarations (arguments a) B (arguments (method_of B j n)) args)
  Ok (receiver.called n saw)

abbrev pub projected_request : MethodOf → List Decl → Items → Side
projected_request a B args = side_of (projected_call a B args)

-- What a reply is projected to

-- the view of a result, where both methods return one; where the client's alone does, the default
abbrev pub projected_result : List Decl → Option AidlType → List Decl → Option AidlType → Option Data
    → Option (Option Data)
projected_result B t A None r = Some None
projected_result B None A (Some u) r = Some (Some (zero_in A u))
projected_result B (Some t) A (Some u) None = Some (Some (zero_in A u))
projected_result B (Some t) A (Some u) (Some v) = option_map (λ w. Some w) (view_of B t A u v)

-- the first item, where there is one
abbrev pub first_of : Items → Option Data
first_of none = None
first_of (item v vs) = Some v

-- the items behind the first
abbrev pub others_of : Items → Items
others_of none = none
others_of (item v vs) = vs

-- an out of the client's method, where the argument comes back
abbrev pub out_first : Arg → Option Data → Option Items → Option Items
out_first a v vs = if is_in_way a.way then vs else item_first v vs

-- what a client's out is, of what the server sent at its position: the view, or the default where nothing was sent
abbrev pub projected_out : List Decl → Arg → List Decl → Arg → Option Data → Option Data
projected_out B b A a None = Some (zero_in A a.ty)
projected_out B b A a (Some v) = view_of B b.ty A a.ty v

-- of all outs of the client's method, by position
abbrev pub projected_outs : List Decl → List Arg → List Decl → List Arg → Items → Option Items
projected_outs B ys A [] vs = Some none
projected_outs B [] A (a ∷ xs) vs = out_first a (Some (zero_in A a.ty)) (projected_outs B [] A xs vs)
projected_outs B (b ∷ ys) A (a ∷ xs) vs = if is_in_way b.way
    then out_first a (Some (zero_in A a.ty)) (projected_outs B ys A xs vs)
    else out_first a (projected_out B b A a (first_of vs)) (projected_outs B ys A xs (others_of vs))

-- the same exception, or the views of result and outs; without an answer the defaults
unfoldable pub projected_answer : MethodOf → MethodOf → Option AnswerData → Result AnswerData ℤ
projected_answer b a (Some (exception code message error)) = Ok (exception code message error)
projected_answer b a (Some (returned result outs)) = do
  -- BAD_VALUE: the result,
  r ← or_status bad_value (projected_result b.declarations (result_type b) a.declarations (result_type a) result)
  -- or an out has no view
  vs ← or_status bad_value (projected_outs b.declarations (arguments b) a.declarations (arguments a) outs)
  Ok (returned r vs)
projected_answer b a None = do
  r ← or_status bad_value (projected_result b.declarations None a.declarations (result_type a) None)
  vs ← or_status bad_value (projected_outs b.declarations [] a.declarations (arguments a) none)
  Ok (returned r vs)

abbrev pub projected_reply : MethodOf → MethodOf → Option AnswerData → Side
projected_reply b a answer = client (projected_answer b a answer)
