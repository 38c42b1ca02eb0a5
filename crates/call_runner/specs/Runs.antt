-- What `run_line` answers: by the script of its line and what the link delivered (own). p is the profile of
-- reading, A is CLIENT's declarations and B SERVER's.
use Rattle.std.specs.Prelude.{◌≡◌, ℕ, ◌<◌, ℤ, Bool, true, List, [], ◌∷◌, ◌++◌, length, Option, Some, None}
use Rattle.std.specs.Prelude.{option_map, Result, Ok, Err}
use Rattle.aidl_base.specs.declared.profile.Profile.{Profile}
use Rattle.aidl_outside.specs.declared.link.Carried.{Carried}
use Rattle.aidl_outside.specs.Carries.{AreFaithful}
use Rattle.aidl_outside.specs.Causes.{Rose}
use Rattle.aidl_outside.specs.Faults.{FailedIn, LinkFaults}
use Rattle.aidl_outside.specs.Parcel.{Parcel, parcel_of}
use Rattle.aidl_outside.specs.Told.{Adds}
use Rattle.aidl_schema.specs.declared.schema.Decl.{Decl}
use Rattle.aidl_schema.specs.Find.{methods_at}
use Rattle.aidl_values.specs.Data.{none}
use Rattle.aidl_values.specs.View.{views}
use Rattle.aidl_values.specs.declared.value.Value.{Value}
use Rattle.call_scripts.specs.Refusal.{Judged}
use Rattle.stub_dispatch.specs.Got.{got_of}
use Rattle.call_scripts.specs.Calls.{CallData, TargetData, callee, refusal_of}
use Rattle.wire_model.specs.Calls.{AnswerData, returned}
use Rattle.wire_model.specs.MethodOf.{method_of}
use Rattle.wire_model.specs.Outcome.{Done, outcome, outcome_within}
use Rattle.wire_model.specs.Outcome as calls
use Rattle.wire_model.specs.Receiver.{Received, left, called}
use Rattle.wire_model.specs.Typed.{AreArguments, IsGot}
use Rattle.call_runner.specs.declared.line.LineOut.{LineOut}
use Rattle.call_runner.specs.declared.line.LineOut.TheVariants as out
use Rattle.call_runner.specs.declared.line.LineRun.{LineRun}
use Rattle.call_runner.specs.declared.line.Methods.{Methods}
use Rattle.call_runner.specs.declared.line.RunFault.{RunFault}
use Rattle.call_runner.specs.declared.line.RunFault.TheVariants.{LinkFault, OutOfMemory}
use Rattle.call_runner.specs.Lines.{LineData, refused, transport, oneway, done, entries, line_of, received}

-- the data of what the code answers
abbrev pub line_data : LineOut → LineData
line_data (out.Refused why) = refused (refusal_of why)
line_data (out.Transport status) = transport status
line_data (out.OnewayDone saw) = oneway (option_map views saw)
line_data (out.Done saw got) = done (option_map views saw) (got_of got)

-- the methods by whose types the values of a line are: CLIENT's, and SERVER's that has the code
abbrev pub methods_by : CallData → Option ℕ → Result Received ℤ → Option Methods
methods_by c None r = None
methods_by c (Some j) (Err status) = None
methods_by c (Some j) (Ok (left n)) =
    Some (record { interface = c.interface; method = c.method; server = j; called = n })
methods_by c (Some j) (Ok (called n saw)) =
    Some (record { interface = c.interface; method = c.method; server = j; called = n })

-- A line that is refused carries nothing. Of any other one the entries are what is carried, and it comes to what is
-- reported.
abbrev pub LineRuns : Profile → List Decl → List Decl → Judged CallData → LineRun → Type 0
LineRuns p A B (Err why) run = (run.carried ≡ []) × (line_data run.out ≡ refused why) × (run.methods ≡ None)
LineRuns p A B (Ok c) run = (b r : List ℕ) × (run.carried ≡ entries p A B c b r)
    × (line_data run.out ≡ line_of p A B c b r)
    × (run.methods ≡ methods_by c c.server (received p A B c b))

-- it is the first of these that were to be carried
abbrev pub IsFirst : List Carried → Parcel → Type 0
IsFirst [] parcel = ⊥
IsFirst (entry ∷ entries) parcel = parcel ≡ parcel_of entry

-- What the log gained where no answer came: the carries that succeeded. After a fault of the link it is the next
-- parcel that failed.
abbrev pub Stops : Profile → List Decl → List Decl → Judged CallData → Bool → Option (List Carried)
    → Option (List Carried) → LinkFaults → RunFault → Type 0
Stops p A B (Err why) faithful before now faults fault = Adds before now [] × (fault ≡ OutOfMemory)
Stops p A B (Ok c) faithful before now faults fault = (b r : List ℕ) × (made rest : List Carried)
    × (entries p A B c b r ≡ made ++ rest)
    × Adds before now made × (faithful ≡ true → AreFaithful made) × (fault ≡ LinkFault → FailedIn faults (IsFirst rest))

-- the count of the link's faults rises with a fault of it, and with nothing else
abbrev pub RunCause : {T : Type 0} → LinkFaults → LinkFaults → Result T RunFault → Type 0
RunCause before now (Ok x) = now ≡ before
RunCause before now (Err LinkFault) = Rose before now
RunCause before now (Err OutOfMemory) = now ≡ before

-- What the handler saw, where it was called, has the types of the arguments of SERVER's method.
abbrev pub AreSeen : List Decl → Methods → Option (List Value) → Type 0
AreSeen B m None = Unit {0}
AreSeen B m (Some saw) = AreArguments (method_of B m.server m.called) (views saw)

-- an answer that the client has is one of CLIENT's method
abbrev pub IsGotBy : List Decl → Methods → Result AnswerData ℤ → Type 0
IsGotBy A m (Err status) = Unit {0}
IsGotBy A m (Ok answer) =
    (m.method < length (methods_at A m.interface)) × IsGot (method_of A m.interface m.method) answer

-- the values of a line have the types of its methods
abbrev pub IsTyped : List Decl → List Decl → Option Methods → LineOut → Type 0
IsTyped A B methods (out.Refused why) = Unit {0}
IsTyped A B methods (out.Transport status) = Unit {0}
IsTyped A B methods (out.OnewayDone saw) = (m : Methods) × (methods ≡ Some m)
    × (m.called < length (methods_at B m.server)) × AreSeen B m saw
IsTyped A B methods (out.Done saw got) = (m : Methods) × (methods ≡ Some m)
    × (m.called < length (methods_at B m.server)) × AreSeen B m saw × IsGotBy A m (got_of got)

-- what SERVER's method answers; where it has none, nothing is made of it
abbrev pub answer_by : Option TargetData → AnswerData
answer_by None = returned None none
answer_by (Some t) = t.answer

-- an outcome as a line's
abbrev pub seen_line : Result Done ℤ → LineData
seen_line (Err status) = transport status
seen_line (Ok (calls.oneway saw)) = oneway (Some saw)
seen_line (Ok (calls.done saw got)) = done (Some saw) got

-- *A line prints its outcome*: what a line comes to between two schemas of which one is a legal evolution of the
-- other, over a link that delivers what was sent: its refusal, or the *Outcome* of its call
abbrev pub projected : List Decl → List Decl → Judged CallData → LineData
projected A B (Err why) = refused why
projected A B (Ok c) = seen_line (outcome (callee A c) B c.args (answer_by c.target))

-- *A faithful call over one tree*: the handler sees what was sent, and the client has what was answered
abbrev pub within_one : List Decl → Judged CallData → LineData
within_one S (Err why) = refused why
within_one S (Ok c) = seen_line (Ok (outcome_within (callee S c) c.args (answer_by c.target)))

-- what is delivered of a reply is what was sent
abbrev pub IsReplied : Option (List ℕ) → List ℕ → Type 0
IsReplied None delivered = Unit {0}
IsReplied (Some sent) delivered = delivered ≡ sent

-- where a line has values, its methods are those of the call's names
abbrev pub NamesOf : CallData → Option Methods → Type 0
NamesOf c None = Unit {0}
NamesOf c (Some m) = (m.interface ≡ c.interface) × (m.method ≡ c.method) × (c.server ≡ Some m.server)
    × (option_map (λ t. t.method) c.target ≡ Some m.called)

abbrev pub AreNamed : Judged CallData → Option Methods → Type 0
AreNamed (Err why) methods = Unit {0}
AreNamed (Ok c) methods = NamesOf c methods
