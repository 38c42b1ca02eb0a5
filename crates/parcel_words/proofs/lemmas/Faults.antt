-- Faults of a step, as faults of the whole.
use Rattle.std.proofs.Common.{◌≡◌, ℤ, Result, Err, refl}
use Rattle.aidl_base.specs.Readings.{◌>>=◌, bad_value, not_enough, unexpected_null}
use Rattle.parcel_words.specs.declared.fault.ReadFault.{ReadFault}
use Rattle.parcel_words.specs.declared.fault.ReadFault.TheVariants.{NotEnough, UnexpectedNull, BadValue, OutOfMemory}
use Rattle.parcel_words.specs.Taken.{Refuses, RefusesIfMemory}

-- Where each status of a reading is one of another, so is each fault.
pub fails_as : {A B : Type 0} (e : ReadFault) (reading : Result A ℤ) (total : Result B ℤ) → ((s : ℤ) → reading ≡ Err s → total ≡ Err s) → RefusesIfMemory e reading → RefusesIfMemory e total
fails_as NotEnough reading total f h = f not_enough h
fails_as UnexpectedNull reading total f h = f unexpected_null h
fails_as BadValue reading total f h = f bad_value h
fails_as OutOfMemory reading total f h = tt

-- A fault of the first step is one of the whole.
pub fails_then : {A B : Type 0} (e : ReadFault) (reading : Result A ℤ) (f : A → Result B ℤ) → RefusesIfMemory e reading → RefusesIfMemory e (reading >>= f)
fails_then e reading f h = fails_as e reading (reading >>= f) (λ s k. rw k refl) h

-- A refusal of a call that takes no memory is one of a call that may.
pub refused_if_memory : {A : Type 0} (e : ReadFault) (reading : Result A ℤ) → Refuses e reading → RefusesIfMemory e reading
refused_if_memory NotEnough reading h = h
refused_if_memory UnexpectedNull reading h = h
refused_if_memory BadValue reading h = h
refused_if_memory OutOfMemory reading h = tt
