-- What a search by halving finds among starts.
use Rattle.std.proofs.Common.{◌≡◌, ℕ, ◌<◌, ◌≤◌, Bool, true, false, List, length, get_or, Option, Some, None, slice_get, nat_lt, Less, Equal, Greater, refl, sym, ap, ◌∙◌, subst, arith}
use Rattle.std.specs.List.{HoldsAt}
use Rattle.std.specs.Prelude.{MatchOption}
use Rattle.std.specs.List.Sorted.{IsPartitionPoint}
use Rattle.std.proofs.lemmas.Bool.Decides.{nat_tests}
use Rattle.std.proofs.lemmas.Option.{slice_get-get_or, slice_get_within, get_or_from_slice_get}
use Rattle.aidl_schema.specs.declared.schema.AidlType.{AidlType}
use Rattle.aidl_schema.specs.declared.schema.Decl.{Decl}
use Rattle.aidl_schema.specs.declared.schema.Method.{Method}
use Rattle.aidl_schema.specs.Names.{methods_of}
use Rattle.marshal_plans.specs.declared.plans.PlanId.{PlanId}
use Rattle.marshal_plans.specs.declared.plans.Plans.{Plans}
use Rattle.marshal_plans.specs.declared.plans.PlanStart.{PlanStart}
use Rattle.marshal_plans.specs.Places.{HasStart, IsMethod, StandsForResult}
use Rattle.marshal_plans.specs.Slots.{slots}
use Rattle.marshal_plans.specs.Standing.{StandFor, StandsFor, IsStartOf}
use Rattle.marshal_plans.specs.steps.Rising.{order_to}
use Rattle.marshal_plans.proofs.lemmas.Matching.{matched, matched_back}
use Rattle.marshal_plans.proofs.Orders.{tied, ties}
use Rattle.marshal_plans.proofs.Places.{IsPlaceOf, slot_at, has_slot, slot_is}

module _ (starts : List PlanStart) (n m : ℕ) (place : Option ℕ) (i : ℕ) where
  pub found : (d : PlanStart) → i < length starts → HoldsAt (λ s. order_to n m place s ≡ Equal) starts i → HasStart starts n m place (get_or starts i d).item
  found d lt tie = (i, slice_get-get_or starts i d lt ∙ ap (λ (s : PlanStart). Some s) (tied n m place (get_or starts i d) (tie d)))

  pub none_there : IsPartitionPoint (λ s. order_to n m place s ≡ Less) (λ s. order_to n m place s ≡ Greater) starts i → (id : PlanId) → HasStart starts n m place id → ⊥
  none_there split id h = by (nat_lt h.0 i) refl
    where
      at : get_or starts h.0 (record { interface = n; method = m; place = place; item = id }) ≡ record { interface = n; method = m; place = place; item = id }
      at = get_or_from_slice_get starts h.0 (record { interface = n; method = m; place = place; item = id }) (record { interface = n; method = m; place = place; item = id }) h.1

      by : (b : Bool) → nat_lt h.0 i ≡ b → ⊥
      by true lt =
          let less : h.0 < i = grind (arith, nat_tests) in
          let e = split.0 h.0 (record { interface = n; method = m; place = place; item = id }) (omega arith) less in
          let f : Equal ≡ Less = sym (ties n m place id) ∙ ap (order_to n m place) (sym at) ∙ e in
          cc
      by false lt =
          let more : i ≤ h.0 = grind (arith, nat_tests) in
          let e = split.1 h.0 (record { interface = n; method = m; place = place; item = id }) more (slice_get_within starts h.0 _ h.1) in
          let f : Equal ≡ Greater = sym (ties n m place id) ∙ ap (order_to n m place) (sym at) ∙ e in
          cc

module _ (S : List Decl) (extra types : List AidlType) (plans : Plans) (stand : StandFor S extra types plans) (n m : ℕ) (w : Method) (is : IsMethod S n m w) where
  -- a place of the schema has a start
  pub start_there : (place : Option ℕ) (t : AidlType) → IsPlaceOf w place t → (id : PlanId) × HasStart plans.starts n m place id
  start_there place t h =
      let s = slot_at n m place t in
      let there = has_slot S n m is.0 w place t is.1 is.2 h in
      let found = matched (λ x start. IsStartOf types x start) (slots S) plans.starts there.0 s stand.starts there.1 in
      let start = found.0 in
      let parts = found.2 in
      (start.item, (there.0, found.1 ∙ ap (λ (x : PlanStart). Some x) (same parts.0 parts.1 parts.2)))
    where
      same : {a b c d : ℕ} {p q : Option ℕ} {id : PlanId} → a ≡ b → c ≡ d → p ≡ q
          → ◌≡◌ {A = PlanStart} (record { interface = a; method = c; place = p; item = id }) (record { interface = b; method = d; place = q; item = id })
      same f g h = rw (f, g, h) refl

  -- and a start of a place stands for what is there
  pub start_stands : (place : Option ℕ) (id : PlanId) → HasStart plans.starts n m place id → (t : AidlType) × IsPlaceOf w place t × StandsFor types id t
  start_stands place id h =
      let found = matched_back (λ x start. IsStartOf types x start) (slots S) plans.starts h.0 (record { interface = n; method = m; place = place; item = id }) stand.starts h.1 in
      let s = found.0 in
      let parts = found.2 in
      let slot = slot_is S s (h.0, found.1) in
      let interface : s.interface ≡ n = sym parts.0 in
      let number : s.method ≡ m = sym parts.1 in
      let decl : slot.decl ≡ is.0 = let a : slice_get S n ≡ Some slot.decl = subst (λ q. slice_get S q ≡ Some slot.decl) interface slot.decl_at in let b = is.1 in cc in
      let at : slice_get (methods_of is.0.kind) m ≡ Some slot.method =
      subst (λ q. slice_get (methods_of is.0.kind) q ≡ Some slot.method) number (subst (λ d. slice_get (methods_of d.kind) s.method ≡ Some slot.method) decl slot.method_at) in
      let method : slot.method ≡ w = let b = is.2 in cc in
      (s.ty, subst (λ p. IsPlaceOf w p s.ty) (sym parts.2) (subst (λ v. IsPlaceOf v s.place s.ty) method slot.place_at), parts.3)

  -- the result's id, where the search found a start or none
  pub result_stands : (id : Option PlanId) → MatchOption id ((i : PlanId) → HasStart plans.starts n m None i → ⊥) (λ i. HasStart plans.starts n m None i) → StandsForResult types w.result id
  result_stands (Some id) h =
      let there = start_stands None id h in
      subst (λ o. StandsForResult types o (Some id)) (sym there.1) there.2
  result_stands None h = by w.result refl
    where
      by : (o : Option AidlType) → w.result ≡ o → StandsForResult types o None
      by None e = tt
      by (Some t) e = let there = start_there None t e in absurd (h there.0 there.1)
