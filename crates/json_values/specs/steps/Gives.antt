-- How what a step of the code answers stands to the definition.
use Rattle.std.specs.Prelude.{◌≡◌, ℕ, List, ◌∷◌, ◌++◌, Option, Some, None, Result, Ok, Err, string_bytes}
use Rattle.json_values.specs.declared.fault.Reason as code
use Rattle.json_values.specs.declared.fault.Reason.TheVariants as code_reason
use Rattle.json_values.specs.declared.fault.Fault.{Fault}
use Rattle.json_values.specs.declared.fault.Fault.TheVariants.{Refused, OutOfMemory}
use Rattle.json_values.specs.Refusal.{Reason, wrong_shape, out_of_range, unknown_key, unknown_enumerator, too_deep}
use Rattle.json_values.specs.Refusal.{Refusal, Answer}

-- what the code's reason stands for
abbrev pub seen_reason : code.Reason → Reason
seen_reason code_reason.WrongShape = wrong_shape
seen_reason code_reason.OutOfRange = out_of_range
seen_reason code_reason.UnknownKey = unknown_key
seen_reason code_reason.UnknownEnumerator = unknown_enumerator
seen_reason code_reason.TooDeep = too_deep

-- unless memory ran out, this is the refusal
abbrev pub Fails : {Y : Type 0} → Fault code.Reason → Answer Y → Type 0
Fails (Refused reason at) answer = answer ≡ Err (record { reason = seen_reason reason; at = string_bytes at })
Fails OutOfMemory answer = Unit {0}

-- What a function returned, seen by view, is the answer, unless memory ran out.
abbrev pub Gives : {X Y : Type 0} → (X → Y) → Result X (Fault code.Reason) → Answer Y → Type 0
Gives view (Ok x) answer = answer ≡ Ok (view x)
Gives view (Err e) answer = Fails e answer

-- the fault behind a step of a pointer, unless memory ran out
abbrev pub IsBehind : List ℕ → Fault code.Reason → Fault code.Reason → Type 0
IsBehind step old OutOfMemory = Unit {0}
IsBehind step OutOfMemory (Refused q b) = ⊥
IsBehind step (Refused r a) (Refused q b) = (q ≡ r) × (string_bytes b ≡ step ++ string_bytes a)

-- the fault of a part as one of the whole, unless memory ran out
abbrev pub IsBelow : List ℕ → Fault code.Reason → Fault code.Reason → Type 0
IsBelow part old new = IsBehind (47 ∷ part) old new

-- the refusal of a fault inside a reading
abbrev pub refusal_in : Fault code.Reason → Option Refusal
refusal_in (Refused reason at) = Some (record { reason = seen_reason reason; at = string_bytes at })
refusal_in OutOfMemory = None
