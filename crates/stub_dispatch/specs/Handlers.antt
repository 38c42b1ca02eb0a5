-- What a service needs of its handler. S is a schema's declarations, i the number of an interface (own).
use Rattle.std.specs.Prelude.{ℕ, ◌<◌, List, length, Result, IfOk}
use Rattle.std.specs.Borrow.{Bor}
use Rattle.aidl_schema.specs.declared.schema.Decl.{Decl}
use Rattle.aidl_schema.specs.Find.{methods_at}
use Rattle.aidl_values.specs.declared.value.Answer.{Answer}
use Rattle.aidl_values.specs.declared.value.Value.{Value}
use Rattle.aidl_values.specs.View.{views}
use Rattle.wire_model.specs.Calls.{answer_of}
use Rattle.wire_model.specs.MethodOf.{method_of}
use Rattle.wire_model.specs.Requests.{AnswerFits}
use Rattle.wire_model.specs.Typed.{AreArguments}

-- It may be called on each method's number with values of the types of the method's arguments.
abbrev pub MayBeCalled : List Decl → ℕ → (ℕ → Bor (List Value) → Type 0) → Type 0
MayBeCalled S i pre = (m : ℕ) (args : Bor (List Value)) → m < length (methods_at S i)
    → AreArguments (method_of S i m) (views args.now) → pre m args

-- Each answer that it may give then fits the method, where memory is there.
abbrev pub AnswersFit : {E : Type 0} → List Decl → ℕ → (ℕ → Bor (List Value) → Result Answer E → Type 0) → Type 0
AnswersFit {E} S i post = (m : ℕ) (args : Bor (List Value)) (result : Result Answer E) → m < length (methods_at S i)
    → AreArguments (method_of S i m) (views args.now) → post m args result
    → IfOk result (λ answer. AnswerFits (method_of S i m) (answer_of answer))
