-- The line of what a service answers, by the methods by whose types its values are.
use Rattle.std.specs.Prelude.{◌≡◌, ℕ, pos, ◌<◌, if◌then◌else◌, List, length, Option, Some, None, option_map}
use Rattle.std.specs.Ordering.{int_eq}
use Rattle.aidl_schema.specs.declared.schema.Decl.{Decl}
use Rattle.aidl_schema.specs.Find.{methods_at, position_of_code}
use Rattle.aidl_values.specs.View.{views}
use Rattle.aidl_values.specs.declared.value.Value.{Value}
use Rattle.call_runner.specs.Runs.{AreSeen}
use Rattle.call_runner.specs.declared.line.Methods.{Methods}
use Rattle.run_command.specs.LineText.{saw_text}
use Rattle.stub_dispatch.specs.declared.answered.Answered.{Answered}
use Rattle.replay_command.specs.Replaying.{called_line, transport_line}

abbrev pub answered_line : List Decl → Option Methods → ℕ → Answered → List ℕ
answered_line S ms k a = if int_eq a.transport (pos 0) then called_line k (saw_text S ms (option_map views a.saw))
    else transport_line k a.transport

-- what a handler saw has the types of the methods' server
abbrev pub IsSeenBy : List Decl → Option Methods → Option (List Value) → Type 0
IsSeenBy S ms None = Unit {0}
IsSeenBy S None (Some saw) = ⊥
IsSeenBy S (Some m) (Some saw) = AreSeen S m (Some saw)

abbrev pub AreThere : List Decl → Option Methods → Type 0
AreThere S None = Unit {0}
AreThere S (Some m) = m.called < length (methods_at S m.server)

-- the methods of an interface that have a code
abbrev pub AreOfCode : List Decl → ℕ → ℕ → Option Methods → Type 0
AreOfCode S i code None = position_of_code (methods_at S i) code ≡ None
AreOfCode S i code (Some m) = (m.server ≡ i) × (position_of_code (methods_at S i) code ≡ Some m.called)
