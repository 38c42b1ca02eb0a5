-- How what a step of the code answers stands to the definition.
use Rattle.std.specs.Prelude.{◌≡◌, ℕ, List, [], ◌++◌, Option, Some, None, Result, Ok, Err, string_bytes}
use Rattle.json_values.specs.Refusal as json
use Rattle.json_values.specs.declared.fault.Fault.{Fault}
use Rattle.json_values.specs.declared.fault.Fault.TheVariants.{Refused, OutOfMemory}
use Rattle.call_scripts.specs.declared.refused.Place.{Place}
use Rattle.call_scripts.specs.declared.refused.Place.TheVariants as place
use Rattle.call_scripts.specs.declared.refused.RefusedName.{RefusedName}
use Rattle.call_scripts.specs.Refusal.{Judged, name_of_reason, at_call, at_args, at_answer, at_exception, at_return}
use Rattle.call_scripts.specs.Refusal.{at_out, at_entry, at_value}

-- unless memory ran out, this is the refusal
abbrev pub Fails : {Y : Type 0} → Fault RefusedName → Judged Y → Type 0
Fails (Refused name at) answer = answer ≡ Err (record { name = name; at = string_bytes at })
Fails OutOfMemory answer = Unit {0}

-- What a function returned, seen by view, is the answer, unless memory ran out.
abbrev pub Gives : {X Y : Type 0} → (X → Y) → Result X (Fault RefusedName) → Judged Y → Type 0
Gives view (Ok x) answer = answer ≡ Ok (view x)
Gives view (Err e) answer = Fails e answer

-- a refusal of this name at this place, unless memory ran out
abbrev pub IsRefusal : RefusedName → List ℕ → Fault RefusedName → Type 0
IsRefusal name at (Refused q s) = (q ≡ name) × (string_bytes s ≡ at)
IsRefusal name at OutOfMemory = Unit {0}

-- the refusal of a JSON value at a place, as one of the line
abbrev pub IsPlaced : List ℕ → Option json.Refusal → Fault RefusedName → Type 0
IsPlaced at (Some r) fault = IsRefusal (name_of_reason r.reason) (at ++ r.at) fault
IsPlaced at None OutOfMemory = Unit {0}
IsPlaced at None (Refused q s) = ⊥

-- a place as a pointer
abbrev pub place_bytes : Place → List ℕ
place_bytes place.Line = []
place_bytes place.Call = at_call
place_bytes place.Args = at_args
place_bytes (place.Entry k) = at_entry k
place_bytes place.Answer = at_answer
place_bytes place.Exception = at_exception
place_bytes place.Return = at_return
place_bytes place.Outs = at_out
place_bytes (place.Out k) = at_value k
