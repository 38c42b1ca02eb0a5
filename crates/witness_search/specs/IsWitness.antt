-- *Witnesses are exact*: of an entry of the judge's list, the first candidate of its row that is shown, or the
-- reason why there is none (own).
use Rattle.std.specs.Prelude.{◌≡◌, ◌⊎◌, List, [], ◌∷◌, Option, Some, None, Result, Ok, Err}
use Rattle.aidl_schema.specs.declared.schema.Decl.{Decl}
use Rattle.aidl_schema.specs.Broken.{Break, Place}
use Rattle.compat_witness.specs.Candidates.{Candidate, AreSmall, IsShown}
use Rattle.compat_witness.specs.Rows.{Row}
use Rattle.compat_witness.specs.RowsByRule.{row_of}
use Rattle.witness_search.specs.declared.shown.NoCall.{NoCall}
use Rattle.witness_search.specs.declared.shown.NoCall.TheVariants.{OutsideWire, NoCandidate}

-- the candidates, and none where a row's condition isn't met
abbrev pub those_of : Option (List Candidate) → List Candidate
those_of None = []
those_of (Some cs) = cs

-- It is the first of these candidates that is shown, and None where none is.
abbrev pub IsFirstShown : List Decl → List Decl → List Candidate → Option Candidate → Type 0
IsFirstShown old new [] found = found ≡ None
IsFirstShown old new (c ∷ cs) found =
    ((found ≡ Some c) × IsShown old new c) ⊎ ((IsShown old new c → ⊥) × IsFirstShown old new cs found)

-- The first candidate of a row that is shown, or that none is.
abbrev pub IsOfRow : List Decl → List Decl → List Candidate → Result Candidate NoCall → Type 0
IsOfRow old new cs (Ok c) = IsFirstShown old new cs (Some c)
IsOfRow old new cs (Err NoCandidate) = IsFirstShown old new cs None
IsOfRow old new cs (Err OutsideWire) = ⊥

-- the same, where the rule has a row; the reason is that no bytes show it, where it has none
abbrev pub IsOf : List Decl → List Decl → Place → Option Row → Result Candidate NoCall → Type 0
IsOf old new p None found = found ≡ Err OutsideWire
IsOf old new p (Some row) found = IsOfRow old new (those_of (row old new p)) found

abbrev pub IsWitness : List Decl → List Decl → Break → Result Candidate NoCall → Type 0
IsWitness old new b found = IsOf old new b.1 (row_of b.0) found

-- *Shown breaches*: of a rule with a row, where there is a reason, the row's condition isn't met, or of its
-- candidates whose values fit not all have at most 1,048,576 bytes.
abbrev pub IsAllowed : List Decl → List Decl → Break → Result Candidate NoCall → Type 0
IsAllowed old new b (Ok c) = Unit {0}
IsAllowed old new b (Err why) = (row : Row) → row_of b.0 ≡ Some row → (cs : List Candidate)
    → row old new b.1 ≡ Some cs → AreSmall old new cs → ⊥
