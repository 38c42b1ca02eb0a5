-- A reason is given only where the law of witnesses gives no call.
use Rattle.std.proofs.Common.{◌≡◌, zero, suc, List, [], ◌∷◌, Some, None, Result, Ok, Err, inl, inr, sym, subst}
use Rattle.aidl_schema.specs.declared.schema.Decl.{Decl}
use Rattle.aidl_schema.specs.Broken.{Break}
use Rattle.compat_witness.specs.Candidates.{AreSmall, Candidate, IsShown, Shows}
use Rattle.compat_witness.specs.Rows.{Row}
use Rattle.witness_search.specs.IsWitness.{IsAllowed, IsFirstShown, IsOf, IsOfRow, IsWitness, those_of}
use Rattle.compat_witness.specs.RowsByRule.{row_of}
use Rattle.witness_search.specs.declared.shown.NoCall.{NoCall}
use Rattle.witness_search.specs.declared.shown.NoCall.TheVariants.{OutsideWire, NoCandidate}

-- the law of witnesses of an entry
abbrev pub ShowsWhereMet : Break → List Decl → List Decl → Type 0
ShowsWhereMet b old new = (row : Row) → row_of b.0 ≡ Some row → (cs : List Candidate) → row old new b.1 ≡ Some cs → AreSmall old new cs → Shows old new cs

module _ (old new : List Decl) where
  -- Where the law of a row holds, one is found.
  none_found : (cs : List Candidate) → IsFirstShown old new cs None → Shows old new cs → ⊥
  none_found [] h x = cc
  none_found (c ∷ cs) (inl h) x = let e = h.0 in cc
  none_found (c ∷ cs) (inr h) (x, (zero, e), counts, differs) =
      let one : c ≡ x = cc in
      h.0 (subst (IsShown old new) (sym one) (record { counts = counts; differs = differs }))
  none_found (c ∷ cs) (inr h) (x, (suc k, e), counts, differs) = none_found cs h.1 (x, (k, e), counts, differs)

  module _ (b : Break) (law : ShowsWhereMet b old new) where
    pub allowed : (found : Result Candidate NoCall) → IsWitness old new b found → IsAllowed old new b found
    allowed (Ok c) is = tt
    allowed (Err OutsideWire) is = λ row e cs at small.
        subst (λ o. IsOf old new b.1 o (Err OutsideWire)) e is
    allowed (Err NoCandidate) is = λ row e cs at small.
        let of_row : IsOfRow old new (those_of (row old new b.1)) (Err NoCandidate) = subst (λ o. IsOf old new b.1 o (Err NoCandidate)) e is in
        none_found cs (subst (λ o. IsOfRow old new (those_of o) (Err NoCandidate)) at of_row) (law row e cs at small)
