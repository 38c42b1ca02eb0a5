-- What words mean is one thing at the most over the same files (own).
use Rattle.std.specs.Prelude.{◌≡◌, List, Option}
use Rattle.aidl_outside.specs.declared.link.Carried.{Carried}
use Rattle.aidl_outside.specs.Files.{Files}
use Rattle.aidl_outside.specs.Writes.{Write}
use Rattle.tool_frame.specs.Acts.{Acts}
use Rattle.tool_frame.specs.Answer.{Answer}
use Rattle.tool_frame.specs.Meaning.{Meaning, Meant}
use Rattle.tool_frame.specs.Meaning.Meant.{unknown, means}
use Rattle.aidl_outside.specs.Parcel.{Parcel}

-- One list of writes; and after the same parcels one that is due next, or none, and one answer.
pub record IsOne (m : Meaning) : Type 0 where
  pub writes : (files : Files) (first second : List Write) → m.writes files first
      → m.writes files second → first ≡ second
  pub due : (files : Files) (entries : List Carried) (first second : Option Parcel) → m.due files entries first
      → m.due files entries second → first ≡ second
  pub answers : (files : Files) (entries : List Carried) (first second : Answer) → m.answers files entries first
      → m.answers files entries second → first ≡ second

-- words that mean nothing have no answer
abbrev pub MeansOne : Meant → Type 0
MeansOne unknown = Unit {0}
MeansOne (means m) = IsOne m

-- the writes and the answer of a command that writes go together
abbrev pub IsOneAct : (Files → Acts) → Type 0
IsOneAct acts = (files : Files) (first second : List Write) (a b : Answer) → acts files first a
    → acts files second b → (first ≡ second) × (a ≡ b)
