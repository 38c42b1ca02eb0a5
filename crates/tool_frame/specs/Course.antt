-- What a command does that carries parcels: it prints, sends, and goes on by what was delivered, until it ends (own).
use Rattle.std.specs.Prelude.{◌≡◌, ℕ, List, [], ◌∷◌, Option, Some, None}
use Rattle.aidl_outside.specs.declared.link.Carried.{Carried}
use Rattle.tool_frame.specs.declared.verdict.Verdict.{Verdict}
use Rattle.tool_frame.specs.declared.verdict.Verdict.TheVariants.{Done}
use Rattle.tool_frame.specs.Answer.{Answer, Refusing, after_text}
use Rattle.aidl_outside.specs.Parcel.{Parcel}

pub data Course : Type 0 where
  ends : (verdict : Verdict) → Course
  prints : (text : List ℕ) → (next : Course) → Course
  sends : (parcel : Parcel) → (next : List ℕ → Course) → Course

-- an answer that is printed with nothing sent
abbrev pub at_once : Answer → Course
at_once a = prints a.text (ends a.verdict)

-- a refusal is printed at once
abbrev pub AtOnce : Refusing Course
AtOnce refusal course = course ≡ at_once refusal

-- the parcel that is due after those that were carried; None where no more is
abbrev pub due_after : Course → List Carried → Option Parcel
due_after (ends verdict) entries = None
due_after (prints text next) entries = due_after next entries
due_after (sends parcel next) [] = Some parcel
due_after (sends parcel next) (entry ∷ entries) = due_after (next entry.delivered) entries

-- what was printed up to there, and the verdict; while a parcel is due, it is what is printed before that one is
-- carried
abbrev pub answer_after : Course → List Carried → Answer
answer_after (ends verdict) entries = record { text = []; verdict = verdict }
answer_after (prints text next) entries = after_text text (answer_after next entries)
answer_after (sends parcel next) [] = record { text = []; verdict = Done }
answer_after (sends parcel next) (entry ∷ entries) = answer_after (next entry.delivered) entries
