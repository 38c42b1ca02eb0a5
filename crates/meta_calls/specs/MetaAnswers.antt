-- What a `MetaService` answers a request: *MetaStub* of `wire_model`, with the handler of the service inside (own).
-- S is a schema's declarations, i the number of an interface.
use Rattle.std.specs.Prelude.{◌≡◌, ℕ, ℤ, pos, List, Some, None, Result, Ok, Err}
use Rattle.std.specs.Borrow.{Bor}
use Rattle.aidl_schema.specs.declared.schema.Decl.{Decl}
use Rattle.aidl_values.specs.declared.value.Answer.{Answer}
use Rattle.aidl_values.specs.declared.value.Value.{Value}
use Rattle.stub_dispatch.specs.Answers.{Answers}
use Rattle.stub_dispatch.specs.declared.answered.Answered.{Answered}
use Rattle.wire_model.specs.MetaStub.{MetaReceived, inner, own}

-- By what is received: a refusal has its status and nothing else; a reply of its own is sent, and no handler sees
-- anything; all else the service inside answers, `post` being what a call of its handler may answer.
abbrev pub MetaAnswers : {E : Type 0} → (ℕ → Bor (List Value) → Result Answer E → Type 0) → List Decl → ℕ → Answered
    → Result MetaReceived ℤ → Type 0
MetaAnswers post S i a (Err status) = a ≡ record { transport = status; saw = None; reply = None }
MetaAnswers post S i a (Ok (own sent)) = a ≡ record { transport = pos 0; saw = None; reply = Some sent }
MetaAnswers post S i a (Ok (inner received)) = Answers post S i a (Ok received)
