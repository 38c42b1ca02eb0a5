-- What words mean is one thing at the least, over any files (own).
use Rattle.std.specs.Prelude.{List, Option}
use Rattle.aidl_outside.specs.declared.link.Carried.{Carried}
use Rattle.aidl_outside.specs.Files.{Files}
use Rattle.aidl_outside.specs.Parcel.{Parcel}
use Rattle.aidl_outside.specs.Writes.{Write}
use Rattle.tool_frame.specs.Answer.{Answer}
use Rattle.tool_frame.specs.Meaning.{Meaning, Meant}
use Rattle.tool_frame.specs.Meaning.Meant.{unknown, means}

-- A list of writes; and after any parcels one that is due next, or none, and an answer.
pub record IsSome (m : Meaning) : Type 0 where
  pub writes : (files : Files) → (list : List Write) × m.writes files list
  pub due : (files : Files) (entries : List Carried) → (parcel : Option Parcel) × m.due files entries parcel
  pub answers : (files : Files) (entries : List Carried) → (answer : Answer) × m.answers files entries answer

-- words that mean nothing have no answer
abbrev pub MeansSome : Meant → Type 0
MeansSome unknown = Unit {0}
MeansSome (means m) = IsSome m
