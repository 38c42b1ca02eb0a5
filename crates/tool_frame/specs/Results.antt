-- What the results of steps stand for.
use Rattle.std.specs.Prelude.{◌≡◌, ℕ, ◌≤◌, true, List, length, Option, Some, Result, Ok, Err, Vec, string_bytes}
use Rattle.std.specs.Option.{option_map}
use Rattle.std.specs.declared.alloc.Global.{Global}
use Rattle.aidl_base.specs.declared.limit.Limit.{Limit}
use Rattle.aidl_base.specs.declared.limit.LimitName.{LimitName}
use Rattle.aidl_base.specs.Limits.{limit_number}
use Rattle.growing.specs.declared.text.GrowingText.{GrowingText}
use Rattle.tool_frame.specs.declared.printed.Early.{Early}
use Rattle.tool_frame.specs.declared.printed.Early.TheVariants.{Answered, OutOfMemory}
use Rattle.tool_frame.specs.declared.printed.Printed.{Printed}
use Rattle.tool_frame.specs.declared.verdict.Verdict.{Verdict}
use Rattle.tool_frame.specs.Answer.{Answer, Found, limit_passed}

-- a text and a verdict are an answer
abbrev pub printed : Printed → Answer
printed p = record { text = string_bytes p.text; verdict = p.verdict }

-- a text that grew is that of the answer, with its verdict, if memory was there for each piece
abbrev pub IsGrown : GrowingText → Verdict → Answer → Type 0
IsGrown text verdict answer = text.is_whole ≡ true → record { text = string_bytes text.text; verdict = verdict } ≡ answer

-- an early end is the answer, or memory was wanted
abbrev pub EndsAs : Early → Answer → Type 0
EndsAs (Answered p) answer = printed p ≡ answer
EndsAs OutOfMemory answer = Unit {0}

-- the answer, or memory was wanted
abbrev pub Gives : Result Printed Early → Answer → Type 0
Gives (Ok p) answer = printed p ≡ answer
Gives (Err early) answer = EndsAs early answer

-- one of these answers, or memory was wanted
abbrev pub GivesOne : Result Printed Early → (Answer → Type 0) → Type 0
GivesOne (Ok p) IsGiven = IsGiven (printed p)
GivesOne (Err (Answered p)) IsGiven = IsGiven (printed p)
GivesOne (Err OutOfMemory) IsGiven = Unit {0}

-- what a step finds, or memory was wanted
abbrev pub Finds : {T A : Type 0} → (T → A) → Result T Early → Found A → Type 0
Finds view (Ok x) found = found ≡ Ok (view x)
Finds view (Err (Answered p)) found = found ≡ Err (printed p)
Finds view (Err OutOfMemory) found = Unit {0}

-- bytes that don't pass a limit
abbrev pub held : Result (Vec ℕ Global) Limit → Found (List ℕ)
held (Ok bytes) = Ok bytes.items
held (Err limit) = Err (limit_passed limit.which)

-- a file that was loaded
abbrev pub loaded : Option (Result (Vec ℕ Global) Limit) → Option (Found (List ℕ))
loaded file = option_map held file

-- a file that was loaded doesn't pass the limit, whatever the store tells
abbrev pub IsShort : LimitName → Option (Result (Vec ℕ Global) Limit) → Type 0
IsShort which (Some (Ok bytes)) = length bytes.items ≤ limit_number which
IsShort which _ = Unit {0}
