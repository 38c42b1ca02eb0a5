-- The first call that the code finds is the first candidate that is shown, and is shown by what stands beside it.
use Rattle.std.proofs.Common.{◌≡◌, ℕ, List, [], ◌∷◌, Option, Some, None, Result, Ok, IfOk, inl, inr, refl, sym, ap, subst}
use Rattle.std.specs.Prelude.{option_map}
use Rattle.aidl_schema.specs.declared.schema.Decl.{Decl}
use Rattle.compat_witness.specs.Candidates.{Candidate}
use Rattle.witness_calls.specs.Seen.{call_seen}
use Rattle.witness_calls.specs.Showing.{ShowsIt}
use Rattle.witness_search.specs.Asked.{candidates_seen}
use Rattle.compat_witness.specs.RowsByRule.{row_of}
use Rattle.aidl_schema.specs.Broken.{Place}
use Rattle.witness_search.specs.IsWitness.{IsFirstShown, IsOf, IsWitness, those_of}
use Rattle.witness_search.specs.Seen.{shown_seen}
use Rattle.witness_search.specs.declared.shown.Shown.{Shown}
use Rattle.witness_search.specs.declared.candidates.Candidates.{Candidates}
use Rattle.witness_search.specs.declared.pair.Pair.{Pair}
use Rattle.witness_search.specs.declared.shown.Witness.{Witness}
use Rattle.witness_search.specs.steps.First.{IsFirst}
use Rattle.witness_search.specs.steps.Gives.{GivesIs}

module _ (old new : List Decl) where
  first_seen : (cs : List Candidate) (o : Option Witness) → IsFirst old new cs o → IsFirstShown old new cs (option_map (λ w. call_seen w.call) o)
  first_seen [] o h = ap (option_map (λ w. call_seen w.call)) h
  first_seen (c ∷ cs) None (inl h) = absurd h
  first_seen (c ∷ cs) (Some w) (inl h) = inl (ap Some h.0, h.1.is_shown)
  first_seen (c ∷ cs) None (inr h) = inr (h.0, first_seen cs None h.1)
  first_seen (c ∷ cs) (Some w) (inr h) = inr (h.0, first_seen cs (Some w) h.1)

  pub first_shows : (cs : List Candidate) (w : Witness) → IsFirst old new cs (Some w) → ShowsIt old new (call_seen w.call) w.showing
  first_shows [] w h = absurd cc
  first_shows (c ∷ cs) w (inl h) = subst (λ (d : Candidate). ShowsIt old new d w.showing) (sym h.0) h.1
  first_shows (c ∷ cs) w (inr h) = first_shows cs w h.1

-- of what a row gave
module _ {E : Type 0} (pair : Pair) (asked : Result (Option Candidates) E) (cs : Option (List Candidate)) (o : Option Candidates) (is : asked ≡ Ok o) (gives : IfOk asked (GivesIs pair cs)) where
  given : GivesIs pair cs o
  given = subst (λ r. IfOk r (GivesIs pair cs)) is gives

  pub none_met : o ≡ None → IsFirstShown pair.old pair.new (those_of cs) None
  none_met at =
      let e : None ≡ cs = subst (λ z. GivesIs pair cs z) at given in
      subst (λ z. IsFirstShown pair.old pair.new (those_of z) None) e refl

  module _ (x : Candidates) (at : o ≡ Some x) where
    met : (found : Option Witness) → IsFirst pair.old pair.new (candidates_seen pair.old pair.new x) found → IsFirstShown pair.old pair.new (those_of cs) (option_map (λ w. call_seen w.call) found)
    met found h =
        let e : Some (candidates_seen pair.old pair.new x) ≡ cs = subst (λ z. GivesIs pair cs z) at given in
        subst (λ z. IsFirstShown pair.old pair.new (those_of z) (option_map (λ w. call_seen w.call) found)) e (first_seen pair.old pair.new (candidates_seen pair.old pair.new x) found h)

    pub found_met : (w : Witness) → IsFirst pair.old pair.new (candidates_seen pair.old pair.new x) (Some w) → IsFirstShown pair.old pair.new (those_of cs) (Some (call_seen w.call))
    found_met w h = met (Some w) h

    pub none_found : IsFirst pair.old pair.new (candidates_seen pair.old pair.new x) None → IsFirstShown pair.old pair.new (those_of cs) None
    none_found h = met None h

-- of the row of a number
pub at_rule : {E : Type 0} (old new : List Decl) (p : Place) (rule n : ℕ) (r : Result Shown E) → rule ≡ n
    → IfOk r (λ shown. IsOf old new p (row_of n) (shown_seen shown)) → IfOk r (λ shown. IsWitness old new (rule, p) (shown_seen shown))
at_rule old new p rule n r is h = subst (λ k. IfOk r (λ shown. IsWitness old new (k, p) (shown_seen shown))) (sym is) h
