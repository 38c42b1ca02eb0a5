-- What a command means over the files that a store told before (own).
use Rattle.std.specs.Prelude.{◌≡◌, Bool, true, false, List, [], ◌∷◌, ◌++◌, Option, Some, None}
use Rattle.aidl_outside.specs.declared.link.Carried.{Carried}
use Rattle.aidl_outside.specs.Asks.{Asks}
use Rattle.aidl_outside.specs.Files.{Files}
use Rattle.aidl_outside.specs.Writes.{Write}
use Rattle.tool_frame.specs.Answer.{Answer}
use Rattle.tool_frame.specs.Course.{Course, answer_after, due_after}
use Rattle.aidl_outside.specs.Parcel.{Parcel, parcel_of}

-- The calls that it makes to read from the store. The files that it writes, in order. The parcel that is due after
-- those that were carried, by what was delivered; None where no more is. And its answer: while a parcel is due, its
-- text is what is printed before that one is carried. Of each of these three there is one, over the same files
-- (`law_some_meaning` and `law_one_meaning` of `aidl_tool`). A command either never writes, whatever the files are, or
-- may, and so it is with carrying.
pub record Meaning : Type 1 where
  pub may_write : Bool
  pub may_carry : Bool
  pub asks : Asks
  pub writes : Files → List Write → Type 0
  pub due : Files → List Carried → Option Parcel → Type 0
  pub answers : Files → List Carried → Answer → Type 0

-- a command that doesn't carry, by what it asks the store, what it writes, and what its answers are over the files
abbrev pub writes_by : Asks → (Files → List Write → Type 0) → (Files → Answer → Type 0) → Meaning
writes_by asks writes answers = record {
  may_write = true;
  may_carry = false;
  asks = asks;
  writes = writes;
  due = λ files entries parcel. parcel ≡ None;
  answers = λ files entries answer. answers files answer;
}

-- a command that neither writes nor carries, by what it asks the store, and what its answers are over the files
abbrev pub reads_by : Asks → (Files → Answer → Type 0) → Meaning
reads_by asks answers = record (writes_by asks (λ files made. made ≡ []) answers) { may_write = false }

-- A command that first writes and then carries, by what it asks the store, what it writes, and the course that it
-- takes. The last two go by the files that the store told before.
abbrev pub does_by : Asks → (Files → List Write → Type 0) → (Files → Course → Type 0) → Meaning
does_by asks writes takes = record {
  may_write = true;
  may_carry = true;
  asks = asks;
  writes = writes;
  due = λ files entries parcel. (course : Course) × takes files course × (parcel ≡ due_after course entries);
  answers = λ files entries answer. (course : Course) × takes files course × (answer ≡ answer_after course entries);
}

-- a command that carries and writes nothing
abbrev pub carries_by : Asks → (Files → Course → Type 0) → Meaning
carries_by asks takes = record (does_by asks (λ files made. made ≡ []) takes) { may_write = false }

-- each entry is of the parcel that was due after those before it
abbrev pub AreDue : (List Carried → Option Parcel → Type 0) → List Carried → List Carried → Type 0
AreDue due before [] = Unit {0}
AreDue due before (entry ∷ entries) = due before (Some (parcel_of entry)) × AreDue due (before ++ entry ∷ []) entries

-- no parcel is ever due
abbrev pub CarriesNothing : Meaning → Type 0
CarriesNothing m = m.may_carry ≡ false

-- what words mean: nothing that is known, or a command
pub data Meant : Type 1 where
  unknown : Meant
  means : Meaning → Meant
