-- Each call that fits is one that a line of a calls file can say (own). A is CLIENT's declarations, B SERVER's.
use Rattle.std.specs.Prelude.{◌≡◌, ℕ, true, List, Option, Some, None, Ok}
use Rattle.serde_json.specs.Data as json
use Rattle.aidl_schema.specs.declared.schema.Decl.{Decl}
use Rattle.aidl_values.specs.Data.{none}
use Rattle.wire_model.specs.Calls.{is_oneway, returned}
use Rattle.wire_model.specs.MethodOf.{method_of}
use Rattle.call_scripts.specs.Calls.{CallData, CallFits, TargetData}
use Rattle.call_scripts.specs.Script.{call_from, script}

-- of a oneway method of SERVER nothing is answered: a line has no `answer` for one
abbrev pub OnewayIsQuiet : List Decl → Option ℕ → Option TargetData → Type 0
OnewayIsQuiet B (Some j) (Some t) = is_oneway (method_of B j t.method) ≡ true → t.answer ≡ returned None none
OnewayIsQuiet B (Some j) None = Unit {0}
OnewayIsQuiet B None target = Unit {0}

-- an object that is taken for this call
abbrev pub HasLine : List Decl → List Decl → CallData → Type 0
HasLine A B c = (ms : json.Members) × (call_from A B ms ≡ Ok c)

-- Each call that fits has such an object (`law_every_call_has_a_line`).
abbrev pub EachHasLine : List Decl → List Decl → Type 0
EachHasLine A B = (c : CallData) → CallFits A B c → OnewayIsQuiet B c.server c.target → HasLine A B c

-- Nothing is answered of a oneway method by any line.
abbrev pub LinesAreQuiet : List Decl → List Decl → Type 0
LinesAreQuiet A B = (line : List ℕ) (c : CallData) → script A B line ≡ Ok c → OnewayIsQuiet B c.server c.target
