-- What is read of values that another schema spelled: their views, or BAD_VALUE at the first that has none.
use Rattle.std.proofs.Common.{◌≡◌, ℕ, ◌≤◌, true, false, List, [], ◌∷◌, ◌++◌, length, Option, Some, None, option_map, Ok, Err, refl, ap, ◌∙◌, subst, arith, append_assoc, length-append}
use Rattle.aidl_base.proofs.lemmas.Lists.{AreBytes, AreBytes-rest}
use Rattle.aidl_base.specs.declared.profile.Profile.{Profile}
use Rattle.aidl_base.specs.Readings.{◌>>=◌}
use Rattle.aidl_schema.specs.declared.schema.AidlType.{AidlType}
use Rattle.aidl_schema.specs.declared.schema.Decl.{Decl}
use Rattle.aidl_schema.specs.Same.{same}
use Rattle.aidl_schema.specs.Types.{is_type}
use Rattle.aidl_values.specs.Data.{Data, Items, none, item}
use Rattle.aidl_values.specs.Fits.{Fits}
use Rattle.aidl_values.specs.Sound.{IsSound}
use Rattle.wire_model.specs.Outcome.{view_values, view_result}
use Rattle.wire_model.specs.ReadOf.{Read, read_of}
use Rattle.wire_model.specs.Receiver.{values_at, result_at}
use Rattle.wire_model.specs.Requests.{spell_each, spell_result, EachFits, ResultFits}
use Rattle.wire_model.specs.Spell.{spell}
use Rattle.wire_model.specs.Status.{bad_value}
use Rattle.wire_model.specs.View.{view_of, item_first}
use Rattle.wire_model.specs.steps.Meets.{Meets}
use Rattle.wire_model.proofs.lemmas.Reading.{reads_read, stop_read}
use Rattle.wire_model.proofs.viewed.Parts.{ReadsOrStops}
use Rattle.wire_model.proofs.viewed.Reads.{view_reads}

-- what is read, with this after it; None stops
abbrev pub seen_at : {X : Type 0} → Option X → List ℕ → Read X
seen_at (Some w) rest = Ok (w, rest)
seen_at None rest = Err bad_value

-- after one item, and after those that follow it
abbrev pub with_first : Data → Read Items → Read Items
with_first v vs = vs >>= λ x. Ok (item v x.0, x.1)

pub first_seen : (w : Data) (os : Option Items) (rest : List ℕ) → with_first w (seen_at os rest) ≡ seen_at (item_first (Some w) os) rest
first_seen w None rest = refl
first_seen w (Some ws) rest = refl

module _ (p : Profile) (B : List Decl) (sound : IsSound B) where
  -- What the law of views says, of reading as a function.
  pub read_seen : (u : AidlType) → is_type B u ≡ true → (o : Option Data) (front rest : List ℕ) → AreBytes (front ++ rest) → ReadsOrStops p B 64 u front o
      → read_of p B 64 u false (front ++ rest) ≡ seen_at o rest
  read_seen u type (Some w) front rest bytes h = reads_read p B sound 64 u type false front rest w h
  read_seen u type None front rest bytes h = stop_read p B sound 64 u type false (front ++ rest) bad_value bytes (h rest false)

-- each type of the one list is the same as that of the other, and one of its schema
abbrev pub TypesAgree : List Decl → List AidlType → List Decl → List AidlType → Type 0
TypesAgree A [] B [] = Unit {0}
TypesAgree A [] B (u ∷ us) = ⊥
TypesAgree A (t ∷ ts) B [] = ⊥
TypesAgree A (t ∷ ts) B (u ∷ us) = (same A t B u ≡ true) × (is_type B u ≡ true) × TypesAgree A ts B us

-- a result: both void, or the same type
abbrev pub ResultsAgree : List Decl → Option AidlType → List Decl → Option AidlType → Type 0
ResultsAgree A None B None = Unit {0}
ResultsAgree A None B (Some u) = ⊥
ResultsAgree A (Some t) B None = ⊥
ResultsAgree A (Some t) B (Some u) = (same A t B u ≡ true) × (is_type B u ≡ true)

module _ (p : Profile) (A B : List Decl) (meets : Meets A B) (sound : IsSound B) where
  -- one value
  pub value_seen : (t u : AidlType) (v : Data) (rest : List ℕ) → same A t B u ≡ true → is_type B u ≡ true → Fits A t v → length (spell A t v) ≤ 1048576 → AreBytes (spell A t v ++ rest)
      → read_of p B 64 u false (spell A t v ++ rest) ≡ seen_at (view_of A t B u v) rest
  value_seen t u v rest is type fits small bytes = read_seen p B sound u type (view_of A t B u v) (spell A t v) rest bytes (view_reads p A B meets 64 t u v is fits.typed fits.deep small)

  abbrev then_values : List AidlType → Read Data → Read Items
  then_values us x = x >>= λ v. values_at p B us v.1 >>= λ vs. Ok (item v.0 vs.0, vs.1)

  -- values in order
  pub values_seen : (ts us : List AidlType) (vs : Items) (rest : List ℕ) → TypesAgree A ts B us → EachFits A ts vs → length (spell_each A ts vs) ≤ 1048576 → AreBytes (spell_each A ts vs ++ rest)
      → values_at p B us (spell_each A ts vs ++ rest) ≡ seen_at (view_values A ts B us vs) rest
  values_seen [] [] none rest agree fits small bytes = refl
  values_seen [] [] (item v vs) rest agree fits small bytes = elim fits [ ]
  values_seen [] (u ∷ us) vs rest agree fits small bytes = elim agree [ ]
  values_seen (t ∷ ts) [] vs rest agree fits small bytes = elim agree [ ]
  values_seen (t ∷ ts) (u ∷ us) none rest agree fits small bytes = elim fits [ ]
  values_seen (t ∷ ts) (u ∷ us) (item v vs) rest agree fits small bytes =
      let front = spell A t v in
      let later = spell_each A ts vs in
      let sum = length-append front later in
      let split : (front ++ later) ++ rest ≡ front ++ (later ++ rest) = append_assoc front later rest in
      let whole : AreBytes (front ++ (later ++ rest)) = subst AreBytes split bytes in
      let first = value_seen t u v (later ++ rest) agree.0 agree.1 fits.0 (omega arith) whole in
      let others = values_seen ts us vs rest agree.2 fits.1 (omega arith) (AreBytes-rest front (later ++ rest) whole) in
      ap (λ c. values_at p B (u ∷ us) c) split ∙ ap (then_values us) first ∙ by_view (view_of A t B u v) others
    where
      by_view : (o : Option Data) → values_at p B us (spell_each A ts vs ++ rest) ≡ seen_at (view_values A ts B us vs) rest
          → then_values us (seen_at o (spell_each A ts vs ++ rest)) ≡ seen_at (item_first o (view_values A ts B us vs)) rest
      by_view None others = refl
      by_view (Some w) others = ap (with_first w) others ∙ first_seen w (view_values A ts B us vs) rest

  abbrev as_result : Read Data → Read (Option Data)
  as_result x = x >>= λ v. Ok (Some v.0, v.1)

  pub result_seen : (t u : Option AidlType) (v : Option Data) (rest : List ℕ) → ResultsAgree A t B u → ResultFits A t v → length (spell_result A t v) ≤ 1048576 → AreBytes (spell_result A t v ++ rest)
      → result_at p B u (spell_result A t v ++ rest) ≡ seen_at (view_result A t B u v) rest
  result_seen None None None rest agree fits small bytes = refl
  result_seen None None (Some v) rest agree fits small bytes = elim fits [ ]
  result_seen None (Some u) v rest agree fits small bytes = elim agree [ ]
  result_seen (Some t) None v rest agree fits small bytes = elim agree [ ]
  result_seen (Some t) (Some u) None rest agree fits small bytes = elim fits [ ]
  result_seen (Some t) (Some u) (Some v) rest agree fits small bytes = ap as_result (value_seen t u v rest agree.0 agree.1 fits small bytes) ∙ by_view (view_of A t B u v)
    where
      by_view : (o : Option Data) → as_result (seen_at o rest) ≡ seen_at (option_map (λ w. let x : Option Data = Some w in x) o) rest
      by_view None = refl
      by_view (Some w) = refl
