-- What a service answered, whose handler answers `not scripted`. S is a schema's declarations, i the number of an
-- interface.
use Rattle.std.specs.Prelude.{◌≡◌, ℕ, ℤ, pos, List, Option, Some, None, option_map, Result, Ok, Err, codes}
use Rattle.aidl_schema.specs.declared.schema.Decl.{Decl}
use Rattle.aidl_schema.specs.Find.{methods_at, position_of_code}
use Rattle.aidl_values.specs.Data.{Items}
use Rattle.aidl_values.specs.View.{views}
use Rattle.aidl_values.specs.declared.value.Value.{Value}
use Rattle.ask_command.specs.Asked.{lines}
use Rattle.run_command.specs.LineText.{values_text}
use Rattle.stub_dispatch.specs.Sent.{sent_reply, unread}
use Rattle.stub_dispatch.specs.Unscripted.{not_scripted}
use Rattle.stub_dispatch.specs.declared.answered.Answered.{Answered}
use Rattle.wire_model.specs.Calls.{arguments}
use Rattle.wire_model.specs.MetaStub.{MetaReceived, inner, own}
use Rattle.wire_model.specs.MethodOf.{method_of}
use Rattle.wire_model.specs.Receiver.{Received, left, called}
use Rattle.wire_model.specs.Typed.{AreArguments, types_of}

-- the answer to what a stub received
abbrev pub AnswersReceived : List Decl → ℕ → Received → Answered → Type 0
AnswersReceived S i (left m) a =
    a ≡ record { transport = pos 0; saw = None; reply = sent_reply (method_of S i m) unread }
AnswersReceived S i (called m saw) a = (values : List Value) × (views values ≡ saw)
    × (a ≡ record { transport = pos 0; saw = Some values; reply = sent_reply (method_of S i m) not_scripted })

-- the answer to what a service received that answers for the version and the hash too
abbrev pub IsAnswered : List Decl → ℕ → Result MetaReceived ℤ → Answered → Type 0
IsAnswered S i (Err status) a = a ≡ record { transport = status; saw = None; reply = None }
IsAnswered S i (Ok (own sent)) a = a ≡ record { transport = pos 0; saw = None; reply = Some sent }
IsAnswered S i (Ok (inner received)) a = AnswersReceived S i received a

-- where a handler saw values, they are of the types of the method of the code
abbrev pub IsSeenBy : List Decl → ℕ → ℕ → Option (List Value) → Type 0
IsSeenBy S i code None = Unit {0}
IsSeenBy S i code (Some values) = (m : ℕ) × (position_of_code (methods_at S i) code ≡ Some m)
    × AreArguments (method_of S i m) (views values)

-- what the handler saw, by the types of a method
abbrev pub saw_of : List Decl → ℕ → Option ℕ → Option Items → List ℕ
saw_of S i None saw = codes "null"
saw_of S i (Some m) None = codes "null"
saw_of S i (Some m) (Some saw) = values_text S (types_of (arguments (method_of S i m))) saw

-- the lines of an answer
abbrev pub answered_text : List Decl → ℕ → ℕ → Answered → List ℕ
answered_text S i code a =
    lines a.transport (saw_of S i (position_of_code (methods_at S i) code) (option_map views a.saw)) a.reply
