-- What is read as a whole.
use Rattle.std.specs.Prelude.{◌≡◌, ℤ, Result, Ok, Err}
use Rattle.aidl_values.specs.declared.value.Answer.{Answer}
use Rattle.parcel_words.specs.Taken.{RefusesIfMemory}
use Rattle.parcel_words.specs.declared.fault.ReadFault.{ReadFault}
use Rattle.wire_model.specs.Calls.{AnswerData, answer_of}

-- The answer is the one that the reading gives, or the refusal is.
abbrev pub IsAnswer : Result Answer ReadFault → Result AnswerData ℤ → Type 0
IsAnswer (Ok answer) reading = reading ≡ Ok (answer_of answer)
IsAnswer (Err fault) reading = RefusesIfMemory fault reading
