-- What a service answers a request (own).
use Rattle.std.specs.Prelude.{◌≡◌, ℕ, ℤ, pos, List, Some, None, Result, Ok, Err}
use Rattle.std.specs.Borrow.{Bor}
use Rattle.aidl_schema.specs.declared.schema.Decl.{Decl}
use Rattle.aidl_values.specs.declared.value.Answer.{Answer}
use Rattle.aidl_values.specs.declared.value.Value.{Value}
use Rattle.aidl_values.specs.View.{views}
use Rattle.wire_model.specs.Calls.{answer_of}
use Rattle.wire_model.specs.MethodOf.{MethodOf, method_of}
use Rattle.wire_model.specs.Receiver.{Received, left, called}
use Rattle.stub_dispatch.specs.Sent.{sent_reply, unread}
use Rattle.stub_dispatch.specs.declared.answered.Answered.{Answered}

-- An answer that the handler may give on arguments that are seen so, and its reply; `post` is what a call of the
-- handler may answer.
abbrev pub AnswersCall : {E : Type 0} → (ℕ → Bor (List Value) → Result Answer E → Type 0) → MethodOf → Answered
    → List Value → Type 0
AnswersCall {E} post m a values = (args : Bor (List Value)) × (answer : Answer) × (args.now ≡ values)
    × post m.method args (Ok answer)
    × (a ≡ record { transport = pos 0; saw = Some values; reply = sent_reply m (answer_of answer) })

-- What is answered, by what the stub receives: a refusal has its status and nothing else; bytes left over have an
-- exception, and the handler isn't called; a call has what the handler saw, and the reply of an answer of it.
abbrev pub Answers : {E : Type 0} → (ℕ → Bor (List Value) → Result Answer E → Type 0) → List Decl → ℕ → Answered
    → Result Received ℤ → Type 0
Answers post S i a (Err status) = a ≡ record { transport = status; saw = None; reply = None }
Answers post S i a (Ok (left m)) =
    a ≡ record { transport = pos 0; saw = None; reply = sent_reply (method_of S i m) unread }
Answers post S i a (Ok (called m saw)) =
    (values : List Value) × (views values ≡ saw) × AnswersCall post (method_of S i m) a values
