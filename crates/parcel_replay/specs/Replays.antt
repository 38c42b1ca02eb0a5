-- What a line of a trace is answered again (own). S is the server's declarations, i the number of its interface.
use Rattle.std.specs.Prelude.{◌≡◌, ◌≢◌, ℕ, ℤ, pos, List, Some, Result, Ok, Err, IfOk}
use Rattle.std.specs.Borrow.{Bor}
use Rattle.aidl_base.specs.declared.memory.OutOfMemory.{OutOfMemory}
use Rattle.aidl_base.specs.declared.profile.Profile.TheVariants.{Strict}
use Rattle.aidl_schema.specs.declared.schema.Decl.{Decl}
use Rattle.aidl_schema.specs.Find.{methods_at, position_of_code}
use Rattle.aidl_values.specs.declared.value.Answer.{Answer}
use Rattle.aidl_values.specs.declared.value.Value.{Value}
use Rattle.stub_dispatch.specs.Answers.{Answers}
use Rattle.stub_dispatch.specs.Unscripted.{not_scripted}
use Rattle.stub_dispatch.specs.declared.answered.Answered.{Answered}
use Rattle.wire_model.specs.Calls.{answer_of}
use Rattle.wire_model.specs.MethodOf.{method_of}
use Rattle.wire_model.specs.Receiver.{Received, left, called, stub}
use Rattle.wire_model.specs.Typed.{AreArguments}
use Rattle.parcel_replay.specs.Traced.{Traced, other, not_trace, too_large, request}
use Rattle.parcel_replay.specs.declared.replaying.Replayed.{Replayed}
use Rattle.parcel_replay.specs.declared.replaying.Replayed.TheVariants.{Other, NotTrace, TooLarge, Got}

-- the handler answers each call with the same exception
abbrev pub IsUnscripted : ℕ → Bor (List Value) → Result Answer OutOfMemory → Type 0
IsUnscripted m args given = IfOk given (λ answer. answer_of answer ≡ not_scripted)

-- A request is answered by what the stub receives of the code and of the bytes that were delivered, read strictly.
abbrev pub Replays : List Decl → ℕ → Traced → Replayed → Type 0
Replays S i other r = r ≡ Other
Replays S i not_trace r = r ≡ NotTrace
Replays S i too_large r = r ≡ TooLarge
Replays S i (request code b) r = (a : Answered) × (r ≡ Got a) × Answers IsUnscripted S i a (stub Strict S i code b)

-- A refusal's status isn't 0. Where the handler was called, the method is the one that has the code, and what it
-- saw has the types of its arguments.
abbrev pub IsLawful : List Decl → ℕ → ℕ → Result Received ℤ → Type 0
IsLawful S i code (Err status) = status ≢ pos 0
IsLawful S i code (Ok (left m)) = Unit {0}
IsLawful S i code (Ok (called m saw)) =
    (position_of_code (methods_at S i) code ≡ Some m) × AreArguments (method_of S i m) saw

abbrev pub IsLawfulRequest : List Decl → ℕ → Traced → Type 0
IsLawfulRequest S i (request code b) = IsLawful S i code (stub Strict S i code b)
IsLawfulRequest S i _ = Unit {0}
