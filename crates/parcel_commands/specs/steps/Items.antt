-- What items add to a text.
use Rattle.std.specs.Prelude.{◌≡◌, ℕ, ℤ, List, ◌++◌, Option, Some, None, Result, Ok, Err, codes, true, string_bytes}
use Rattle.std.specs.Fmt.{signed_decimal}
use Rattle.growing.specs.declared.text.GrowingText.{GrowingText}
use Rattle.growing.specs.Grows.{Grows}
use Rattle.aidl_schema.specs.declared.schema.Decl.{Decl}
use Rattle.aidl_schema.specs.declared.schema.AidlType.{AidlType}
use Rattle.aidl_values.specs.Data.{Data}
use Rattle.tool_frame.specs.declared.verdict.Verdict.{Verdict}
use Rattle.tool_frame.specs.Answer.{Answer, after_text, line}
use Rattle.parcel_commands.specs.Decode.{value_line}

-- if the text is whole, the item's line was added to it, and these bytes are left after an item that was read
abbrev pub PrintsItem : List Decl → AidlType → Result (Data × List ℕ) ℤ → GrowingText → GrowingText → Option (List ℕ)
    → Type 0
PrintsItem S t (Ok item) old new left =
    Grows old new (value_line S t item.0) × (new.is_whole ≡ true → left ≡ Some item.1)
PrintsItem S t (Err status) old new left =
    Grows old new (line (codes "status " ++ signed_decimal status)) × (new.is_whole ≡ true → left ≡ None)

-- if the text is whole it was so before, and with this verdict it is what stood there and then an answer
abbrev pub PrintsAnswer : GrowingText → GrowingText → Verdict → Answer → Type 0
PrintsAnswer old new verdict answer = new.is_whole ≡ true → (old.is_whole ≡ true)
    × (record { text = string_bytes new.text; verdict = verdict } ≡ after_text (string_bytes old.text) answer)
