-- Each entry of the judge's list between valid schemas has a witness, or the reason why there is none.
use Rattle.std.proofs.Common.{List, [], ◌∷◌, Option, Some, None, Result, Ok, Err, inl, inr, refl}
use Rattle.aidl_schema.specs.declared.schema.Decl.{Decl}
use Rattle.aidl_schema.specs.Broken.{Break, Place, broken}
use Rattle.aidl_schema.specs.Unbroken.{Has}
use Rattle.aidl_schema.specs.Valid.{IsValid}
use Rattle.compat_witness.specs.Candidates.{Candidate, IsShown}
use Rattle.compat_witness.specs.Rows.{Row}
use Rattle.compat_witness.proofs.lemmas.Decided.{counts, differs}
use Rattle.compat_witness.proofs.lemmas.Laws.{shown_by_rule}
use Rattle.compat_witness.proofs.lemmas.SameSides.{both_decided}
use Rattle.witness_search.specs.IsWitness.{IsAllowed, IsFirstShown, IsOf, IsOfRow, IsWitness, those_of}
use Rattle.compat_witness.specs.RowsByRule.{row_of}
use Rattle.witness_search.specs.declared.shown.NoCall.{NoCall}
use Rattle.witness_search.specs.declared.shown.NoCall.TheVariants.{OutsideWire, NoCandidate}
use Rattle.witness_search.proofs.Allowed.{ShowsWhereMet, allowed}
use Rattle.std.proofs.Math.Decide.{map_dec}

module _ (old new : List Decl) where
  -- Of candidates

  shown : (c : Candidate) → Dec (IsShown old new c)
  shown c = map_dec (λ h. record { counts = h.0; differs = h.1 }) (λ h. (h.counts, h.differs)) (both_decided (counts old new c) (differs old new c))

  first : (cs : List Candidate) → (found : Option Candidate) × IsFirstShown old new cs found
  first [] = (None, refl)
  first (c ∷ cs) = by (shown c) (first cs)
    where
      by : Dec (IsShown old new c) → (found : Option Candidate) × IsFirstShown old new cs found → (found : Option Candidate) × IsFirstShown old new (c ∷ cs) found
      by (yes h) rest = (Some c, inl (refl, h))
      by (no h) rest = (rest.0, inr (h, rest.1))

  of_first : (cs : List Candidate) (found : Option Candidate) → IsFirstShown old new cs found → (found : Result Candidate NoCall) × IsOfRow old new cs found
  of_first cs (Some c) h = (Ok c, h)
  of_first cs None h = (Err NoCandidate, h)

  of_row : (p : Place) (o : Option Row) → (found : Result Candidate NoCall) × IsOf old new p o found
  of_row p None = (Err OutsideWire, refl)
  of_row p (Some row) = let x = first (those_of (row old new p)) in of_first (those_of (row old new p)) x.0 x.1

  module _ (valid_old : IsValid old) (valid_new : IsValid new) where
    law : (b : Break) → Has (broken old new) b → ShowsWhereMet b old new
    law b entry row is cs at small = shown_by_rule old new valid_old valid_new b.0 row is b.1 entry cs at small

    pub some_witness : (b : Break) → Has (broken old new) b → (found : Result Candidate NoCall) × IsWitness old new b found × IsAllowed old new b found
    some_witness b entry = let x = of_row b.1 (row_of b.0) in (x.0, x.1, allowed old new b (law b entry) x.0 x.1)
