-- *The receiver*: what a stub makes of a request, and a client of a reply (libbinder, Parcel.cpp:
-- `enforceInterface`, Status.cpp: `readFromParcel`; the compiler's generated stub and proxy; the bound on lengths,
-- and the order where nothing else says it, are own). p is the profile of reading, S a schema's declarations, i the
-- number of an interface, b the bytes.
use Rattle.std.specs.Prelude.{ℕ, zero, suc, ◌+◌, nat_le, ℤ, pos, Bool, false, ◌&&◌, ◌||◌, if◌then◌else◌}
use Rattle.std.specs.Prelude.{List, [], ◌∷◌, Option, Some, None, Result, Ok, Err}
use Rattle.std.specs.Ordering.{int_eq}
use Rattle.aidl_base.specs.declared.profile.Profile.{Profile}
use Rattle.aidl_base.specs.Readings.{bytes_at, word_at}
unfoldable use Rattle.aidl_base.specs.Readings.{count_at, present_text_at}
use Rattle.aidl_schema.specs.declared.schema.AidlType.{AidlType}
use Rattle.aidl_schema.specs.declared.schema.Arg.{Arg}
use Rattle.aidl_schema.specs.declared.schema.Decl.{Decl}
use Rattle.aidl_schema.specs.Find.{methods_at, position_of_code}
use Rattle.aidl_schema.specs.Same.{same_text}
use Rattle.aidl_schema.specs.Types.{is_array, elem}
use Rattle.aidl_values.specs.Data.{Data, null, seq, Items, none, item, count}
use Rattle.aidl_values.specs.Default.{zero_within}
use Rattle.wire_model.specs.Calls.{AnswerData, returned, exception, descriptor, arguments, result_type, out_types}
use Rattle.wire_model.specs.Calls.{is_out}
use Rattle.wire_model.specs.MethodOf.{MethodOf, method_of}
use Rattle.wire_model.specs.ReadOf.{Read, ◌>>=◌, read_of}
use Rattle.wire_model.specs.Requests.{sent_length}
use Rattle.wire_model.specs.Status.{bad_value, unknown_transaction, bad_type, service_specific, parcelable_exception}
use Rattle.wire_model.specs.Status.{noted_header, reply_header, transaction_failed}

-- The token

-- what begins a request: eight bytes that nobody looks at, the header word and a name
unfoldable pub header_at : Profile → List ℕ → Read (ℤ × List ℕ)
header_at p b = do
  first ← bytes_at 8 false b
  header ← word_at false first.1
  name ← present_text_at p false header.1
  Ok ((header.0, name.0), name.1)

-- the header `SYST` and this name
abbrev pub is_token : List ℕ → ℤ × List ℕ → Bool
is_token name x = int_eq x.0 (pos 0x53595354) && same_text x.1 name

abbrev pub accepted : List ℕ → Read (ℤ × List ℕ) → Result (List ℕ) ℤ
accepted name (Ok x) = if is_token name x.0 then Ok x.1 else Err bad_type
accepted name (Err s) = Err bad_type

-- the bytes after the token; BAD_TYPE where there is none
abbrev pub token_at : Profile → List ℕ → List ℕ → Result (List ℕ) ℤ
token_at p name b = accepted name (header_at p b)

-- The arguments

-- the default of a type (`law_one_default`)
abbrev pub zero_in : List Decl → AidlType → Data
zero_in S t = zero_within 33 S t

abbrev pub repeated : ℕ → Data → Items
repeated zero v = none
repeated (suc n) v = item v (repeated n v)

-- what an `out` array starts as: null, or so many defaults
abbrev pub array_opening : List Decl → AidlType → Option ℕ → Data
array_opening S t None = null
array_opening S t (Some n) = seq (repeated n (zero_in S (elem S t)))

-- what an `out` argument starts as; the length says how long an array is
abbrev pub opening : List Decl → AidlType → Option ℕ → Data
opening S t n = if is_array t.shape then array_opening S t n else zero_in S t

-- what a handler sees of arguments that its own schema sent: the values, and the openings of the `out` ones
abbrev pub opened_arguments : List Decl → List Arg → Items → Items
opened_arguments S [] vs = none
opened_arguments S (a ∷ xs) none = none
opened_arguments S (a ∷ xs) (item v vs) =
    item (if is_out a.way then opening S a.ty (sent_length v) else v) (opened_arguments S xs vs)

-- The lengths of a request add up to at most 65,536; `sum` is that of the lengths before this one.
abbrev pub within_sum : ℕ → Option ℕ → Result (Option ℕ) ℤ
within_sum sum None = Ok None
within_sum sum (Some n) = if nat_le (sum + n) 65536 then Ok (Some n) else Err bad_value

-- the length word of an `out` array
unfoldable pub length_at : Bool → ℕ → List ℕ → Read (Option ℕ)
length_at nullable sum b = do
  n ← count_at nullable false b
  m ← within_sum sum n.0
  Ok (m, n.1)

unfoldable pub array_opening_at : List Decl → ℕ → AidlType → List ℕ → Read Data
array_opening_at S sum t b = do
  n ← length_at t.nullable sum b
  Ok (array_opening S t n.0, n.1)

-- an `out` argument: an array has its length word, any other has nothing
abbrev pub opening_at : List Decl → ℕ → AidlType → List ℕ → Read Data
opening_at S sum t b = if is_array t.shape then array_opening_at S sum t b else Ok (zero_in S t, b)

abbrev pub argument_at : Profile → List Decl → ℕ → Arg → List ℕ → Read Data
argument_at p S sum a b = if is_out a.way then opening_at S sum a.ty b else read_of p S 64 a.ty false b

-- how many items an `out` argument starts with
abbrev pub items_in : Data → ℕ
items_in (seq vs) = count vs
items_in _ = 0

abbrev pub opened_length : Arg → Data → ℕ
opened_length a v = if is_out a.way then items_in v else 0

-- the arguments in order
abbrev pub arguments_at : Profile → List Decl → ℕ → List Arg → List ℕ → Read Items
arguments_at p S sum [] b = Ok (none, b)
arguments_at p S sum (a ∷ xs) b = do
  v ← argument_at p S sum a b
  vs ← arguments_at p S (sum + opened_length a v.0) xs v.1
  Ok (item v.0 vs.0, vs.1)

-- The stub

-- what a stub receives: a method with bytes left over, or a method and what its handler sees
pub data Received : Type 0 where
  left : (method : ℕ) → Received
  called : (method : ℕ) → (saw : Items) → Received

abbrev pub received : ℕ → Items → List ℕ → Received
received m saw (x ∷ rest) = left m
received m saw [] = called m saw

-- or else a status
abbrev pub or_status : {A : Type 0} → ℤ → Option A → Result A ℤ
or_status s None = Err s
or_status s (Some x) = Ok x

-- *Stub*: what is received, or the transport status of the first refusal (own: a generated stub replies to
-- UNEXPECTED_NULL by exception -4)
unfoldable pub stub : Profile → List Decl → ℕ → ℕ → List ℕ → Result Received ℤ
stub p S i code b = do
  -- UNKNOWN_TRANSACTION: no method has the code
  m ← or_status unknown_transaction (position_of_code (methods_at S i) code)
  rest ← token_at p (descriptor S i) b  -- BAD_TYPE: the bytes don't begin with the token
  saw ← arguments_at p S 0 (arguments (method_of S i m)) rest  -- the status of the first argument that stops
  Ok (received m saw.0 saw.1)  -- bytes are left over; or else the method is called

-- The client

-- values of these types, in order
abbrev pub values_at : Profile → List Decl → List AidlType → List ℕ → Read Items
values_at p S [] b = Ok (none, b)
values_at p S (t ∷ ts) b = do
  v ← read_of p S 64 t false b
  vs ← values_at p S ts v.1
  Ok (item v.0 vs.0, vs.1)

-- a result, where the method has one
abbrev pub result_at : Profile → List Decl → Option AidlType → List ℕ → Read (Option Data)
result_at p S None b = Ok (None, b)
result_at p S (Some t) b = do
  v ← read_of p S 64 t false b
  Ok (Some v.0, v.1)

-- after the status 0
unfoldable pub returned_at : Profile → List Decl → Option AidlType → List AidlType → List ℕ → Read AnswerData
returned_at p S result outs b = do
  r ← result_at p S result b
  vs ← values_at p S outs r.1
  Ok (returned r.0 vs.0, vs.1)

-- the bytes after a stack-trace size; no stack trace is ever sent
abbrev pub after_trace : ℤ → List ℕ → Result (List ℕ) ℤ
after_trace size b = if int_eq size (pos 0) then Ok b else Err bad_value

-- the error word of a service's own exception, and 0 of any other
abbrev pub error_at : ℤ → List ℕ → Read ℤ
error_at code b = if int_eq code service_specific then word_at false b else Ok (pos 0, b)

-- after the code of an exception
unfoldable pub exception_at : Profile → ℤ → List ℕ → Read AnswerData
exception_at p code b = do
  message ← present_text_at p false b
  size ← word_at false message.1
  rest ← after_trace size.0 size.1
  error ← error_at code rest
  Ok (exception code message.0 error.0, error.1)

-- the words of a parcelable exception, of headers and of a failed transaction, which no reply of this kind has
abbrev pub is_refused_status : ℤ → Bool
is_refused_status w = int_eq w parcelable_exception
    || (int_eq w noted_header || (int_eq w reply_header || int_eq w transaction_failed))

-- after the status word
abbrev pub status_at : Profile → List Decl → Option AidlType → List AidlType → ℤ → List ℕ → Read AnswerData
status_at p S result outs w b = if int_eq w (pos 0) then returned_at p S result outs b
    else (if is_refused_status w then Err bad_value else exception_at p w b)

-- nothing is left over
abbrev pub whole : AnswerData → List ℕ → Result AnswerData ℤ
whole a [] = Ok a
whole a (x ∷ rest) = Err bad_value

-- *Client*: the answer to a call of the method m, or the status of the first wrong item
unfoldable pub client : Profile → MethodOf → List ℕ → Result AnswerData ℤ
client p m b = do
  status ← word_at false b
  a ← status_at p m.declarations (result_type m) (out_types m) status.0 status.1
  whole a.0 a.1
