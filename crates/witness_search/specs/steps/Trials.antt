-- What trials of calls come to.
use Rattle.std.specs.Prelude.{◌≡◌, Bool, true, List, [], ◌∷◌}
use Rattle.aidl_schema.specs.declared.schema.Decl.{Decl}
use Rattle.aidl_schema.specs.Unbroken.{Has}
use Rattle.aidl_values.specs.Data.{Data, none, item}
use Rattle.compat_witness.specs.Alike.{IsShort}
use Rattle.compat_witness.specs.Candidates.{Candidate, IsShown, request}
use Rattle.witness_search.specs.steps.First.{IsFirst}
use Rattle.witness_search.specs.declared.candidates.Reach.{Reach}
use Rattle.witness_search.specs.declared.first.Trial.{Trial}

-- none of these candidates has more than 1,048,576 bytes, if its values fit
abbrev pub AllShort : List Decl → List Decl → List Candidate → Type 0
AllShort old new [] = Unit {0}
AllShort old new (c ∷ cs) = IsShort old new c × AllShort old new cs

-- the first of these candidates that is shown; and where they are said to be short, none is too long
pub record IsFirstTrial (old new : List Decl) (cs : List Candidate) (t : Trial) : Type 0 where
  pub first : IsFirst old new cs t.found
  pub short : t.short ≡ true → AllShort old new cs

-- What one of these methods shows by a value, each shows whose request isn't too long.
abbrev pub AreShownAlike : List Decl → List Decl → Bool → List Reach → Type 0
AreShownAlike old new back methods = (r s : Reach) → Has methods r → Has methods s → (x : Data)
    → IsShort old new (request back r.interface r.method (item x none))
    → IsShown old new (request back s.interface s.method (item x none))
    → IsShown old new (request back r.interface r.method (item x none))
