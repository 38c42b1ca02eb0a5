-- What comes of a call that a line of a calls file means: what is carried of it, and what is made of that (own). p
-- is the profile of reading, A is CLIENT's declarations and B SERVER's, c the call, b the bytes of the request and
-- r those of the reply as they were delivered.
use Rattle.std.specs.Prelude.{ℕ, ◌==◌, ℤ, if◌then◌else◌, List, [], ◌∷◌, Option, Some, None, Result, Ok, Err}
use Rattle.aidl_base.specs.declared.profile.Profile.{Profile}
use Rattle.aidl_outside.specs.declared.link.Carried.{Carried}
use Rattle.aidl_outside.specs.declared.link.Way.TheVariants.{Request, Reply}
use Rattle.aidl_outside.specs.Carries.{entry}
use Rattle.aidl_schema.specs.declared.schema.Decl.{Decl}
use Rattle.aidl_values.specs.Data.{Items}
use Rattle.call_scripts.specs.Refusal.{Refusal}
use Rattle.stub_dispatch.specs.Sent.{sent_reply, unread}
use Rattle.call_scripts.specs.Calls.{CallData, TargetData, callee}
use Rattle.stub_dispatch.specs.Unscripted.{not_scripted}
use Rattle.wire_model.specs.Calls.{AnswerData, code_at}
use Rattle.wire_model.specs.MethodOf.{method_of}
use Rattle.wire_model.specs.Receiver.{Received, left, called, stub, client}
use Rattle.wire_model.specs.Requests.{request}
use Rattle.wire_model.specs.Status.{unknown_transaction}

-- the transaction code of the call
abbrev pub call_code : List Decl → CallData → ℕ
call_code A c = code_at (callee A c)

-- what SERVER makes of a request: UNKNOWN_TRANSACTION where it lacks the interface, or else what its stub makes of it
abbrev pub received_at : Profile → List Decl → Option ℕ → ℕ → List ℕ → Result Received ℤ
received_at p B None code b = Err unknown_transaction
received_at p B (Some j) code b = stub p B j code b

abbrev pub received : Profile → List Decl → List Decl → CallData → List ℕ → Result Received ℤ
received p A B c b = received_at p B c.server (call_code A c) b

-- what SERVER's handler answers for the method m: what the line says of it, or else an exception
abbrev pub scripted : Option TargetData → ℕ → AnswerData
scripted None m = not_scripted
scripted (Some t) m = if t.method == m then t.answer else not_scripted

-- *What is replied*: the bytes of the reply that SERVER sends, where it sends one
abbrev pub reply_at : List Decl → Option ℕ → Option TargetData → Result Received ℤ → Option (List ℕ)
reply_at B server target (Err status) = None
reply_at B None target (Ok r) = None
reply_at B (Some j) target (Ok (left m)) = sent_reply (method_of B j m) unread
reply_at B (Some j) target (Ok (called m saw)) = sent_reply (method_of B j m) (scripted target m)

abbrev pub reply_sent : Profile → List Decl → List Decl → CallData → List ℕ → Option (List ℕ)
reply_sent p A B c b = reply_at B c.server c.target (received p A B c b)

-- the reply that is carried, where one is sent
abbrev pub reply_entries : ℕ → Option (List ℕ) → List ℕ → List Carried
reply_entries code None r = []
reply_entries code (Some sent) r = entry Reply code sent r ∷ []

-- the request that is carried
abbrev pub request_entry : List Decl → CallData → List ℕ → Carried
request_entry A c b = entry Request (call_code A c) (request (callee A c) c.args) b

-- *What is carried*: the request, and then the reply where one is sent
abbrev pub entries : Profile → List Decl → List Decl → CallData → List ℕ → List ℕ → List Carried
entries p A B c b r = request_entry A c b ∷ reply_entries (call_code A c) (reply_sent p A B c b) r

-- What a line comes to: it is refused; the transport status of a request that the server refuses; what the handler
-- saw of a oneway call, if it was called; or that and what the client makes of the reply, the answer or a status.
pub data LineData : Type 0 where
  refused : (why : Refusal) → LineData
  transport : (status : ℤ) → LineData
  oneway : (saw : Option Items) → LineData
  done : (saw : Option Items) → (client : Result AnswerData ℤ) → LineData

-- what the handler saw, where it was called
abbrev pub saw_of : Received → Option Items
saw_of (left m) = None
saw_of (called m saw) = Some saw

-- by what SERVER received, the reply that it sent, and what the client makes of it
abbrev pub reported : Result Received ℤ → Option (List ℕ) → Result AnswerData ℤ → LineData
reported (Err status) sent got = transport status
reported (Ok r) None got = oneway (saw_of r)
reported (Ok r) (Some sent) got = done (saw_of r) got

-- *What is reported*
abbrev pub line_of : Profile → List Decl → List Decl → CallData → List ℕ → List ℕ → LineData
line_of p A B c b r = reported (received p A B c b) (reply_sent p A B c b) (client p (callee A c) r)
