-- What the calls of a reader answer.
use Rattle.std.specs.Prelude.{◌≡◌, ℤ, List, ℕ, Option, Some, None, Result, Ok, Err, IfSome, IsSomeAnd}
use Rattle.aidl_base.specs.Readings.{Read, bad_value, not_enough, unexpected_null}
use Rattle.parcel_words.specs.declared.fault.ReadFault.{ReadFault}
use Rattle.parcel_words.specs.declared.fault.ReadFault.TheVariants.{NotEnough, UnexpectedNull, BadValue, OutOfMemory}

-- the status of a fault (libutils, Errors.h); want of memory has none
abbrev pub status_of : ReadFault → Option ℤ
status_of NotEnough = Some not_enough
status_of UnexpectedNull = Some unexpected_null
status_of BadValue = Some bad_value
status_of OutOfMemory = None

-- a refusal has the status that the reading gives
abbrev pub Refuses : {A : Type 0} → ReadFault → Result A ℤ → Type 0
Refuses fault reading = IsSomeAnd (status_of fault) (λ status. reading ≡ Err status)

-- The value, seen in a way, and the bytes after it are those that the reading gives, or the refusal is.
abbrev pub Takes : {A B : Type 0} → (A → B) → Result A ReadFault → Read B → List ℕ → Type 0
Takes seen (Ok x) reading rest = reading ≡ Ok (seen x, rest)
Takes seen (Err fault) reading rest = Refuses fault reading

-- the same of a call that may want memory: where it does, nothing is said of the reading
abbrev pub RefusesIfMemory : {A : Type 0} → ReadFault → Result A ℤ → Type 0
RefusesIfMemory fault reading = IfSome (status_of fault) (λ status. reading ≡ Err status)

abbrev pub TakesIfMemory : {A B : Type 0} → (A → B) → Result A ReadFault → Read B → List ℕ → Type 0
TakesIfMemory seen (Ok x) reading rest = reading ≡ Ok (seen x, rest)
TakesIfMemory seen (Err fault) reading rest = RefusesIfMemory fault reading
