-- What reading a union answers is a reading of a front, or the stop.
use Rattle.std.proofs.Common.{◌≡◌, ℕ, zero, suc, ◌≤◌, ℤ, pos, negsuc, Bool, true, false, nat_lt, List, [], ◌∷◌, ◌++◌, length, take, Option, Some, None, slice_get, Ok, Err, refl, sym, ap, ◌∙◌, subst, arith, append_assoc}
use Rattle.std.proofs.lemmas.List.{take-append-drop}
use Rattle.std.proofs.lemmas.Bool.{ltb-true, ltb-false}
use Rattle.aidl_base.specs.declared.profile.Profile.{Profile}
use Rattle.aidl_base.specs.Words.{word}
use Rattle.aidl_schema.specs.declared.schema.Decl.{Decl}
use Rattle.aidl_schema.specs.declared.schema.Field.{Field}
use Rattle.aidl_schema.specs.declared.schema.AidlType.{AidlType}
use Rattle.aidl_schema.specs.Types.{is_type}
use Rattle.aidl_values.specs.Data.{Data, null, alt}
use Rattle.aidl_values.specs.Sound.{AreTypes}
use Rattle.wire_model.specs.Stop.{Stoppings, first_word, after_word, Begins, MarkerStop, TagStop, UnionStop}
use Rattle.wire_model.specs.Reads.{Readings, IsMarker}
use Rattle.wire_model.specs.Status.{bad_value, past}
use Rattle.wire_model.specs.ReadOf.{Read, ◌>>=◌, marker_at, marked_at, tag_of, tag_at, tagged_at, union_at}
use Rattle.wire_model.proofs.lemmas.Sound.{field_type}
use Rattle.wire_model.proofs.told.Words.{Told, told_then, spells_word, MarkerReads, marker_told, marks, after_is}
use Rattle.wire_model.proofs.Steps.{then_alternative, then_field, with_tag}
use Rattle.aidl_base.proofs.lemmas.Lists.{AreBytes, AreBytes-drop, AreBytes-rest}

-- what is read at a union's place; `left` says that a level is left
abbrev pub UnionReads : Profile → Bool → Readings → Bool → List Field → List ℕ → Data → Type 0
UnionReads p left PartReads nullable fs front null = (nullable ≡ true) × (front ≡ word (pos 0))
UnionReads p left PartReads nullable fs front (alt k v) = (left ≡ true) × (f : Field) × (slice_get fs k ≡ Some f) × (marker rest : List ℕ) × (front ≡ marker ++ (word (pos k) ++ rest)) × IsMarker p marker × PartReads f.ty rest v
UnionReads p left PartReads nullable fs front _ = ⊥

past_end : (fs : List Field) (k : ℕ) → slice_get fs k ≡ None → length fs ≤ k
past_end [] k e = omega arith
past_end (f ∷ fs) zero e = absurd cc
past_end (f ∷ fs) (suc k) e = omega (arith, past_end fs k e)

module _ (p : Profile) (left : Bool) (S : List Decl) (PartReads : Readings) (PartStops : Stoppings) (read : AidlType → Bool → List ℕ → Read Data)
    (law : left ≡ true → (t : AidlType) (j : Bool) (c : List ℕ) → is_type S t ≡ true → AreBytes c → Told (PartReads t) (λ s. PartStops t c j s) c (read t j c))
    (nullable inside : Bool) (fs : List Field) (types : AreTypes S fs) (b : List ℕ) (bytes : AreBytes b) where
  abbrev Outcome : Read Data → Type 0
  Outcome = λ x. Told (λ c v. UnionReads p left PartReads nullable fs c v) (λ s. UnionStop p left nullable fs PartStops b inside s) b x

  -- after the marker
  module _ (marker rest : List ℕ) (has : left ≡ true) (e : b ≡ marker ++ rest) (m : IsMarker p marker) (rest_bytes : AreBytes rest) where
    tail : rest ≡ after_word b
    tail = sym (after_is b marker rest e m.0)

    -- the field of the tag k
    value_told : (k : ℕ) (f : Field) → 4 ≤ length rest → first_word rest ≡ pos k → slice_get fs k ≡ Some f → (x : Read Data)
        → Told (PartReads f.ty) (λ s. PartStops f.ty (after_word rest) inside s) (after_word rest) x
        → Outcome (with_tag k x)
    value_told k f le is at (Ok x) h =
        let spelled : word (pos k) ≡ take 4 rest = ap word (sym is) ∙ spells_word rest rest_bytes le in
        let split : rest ≡ word (pos k) ++ (h.0 ++ x.1) = sym (take-append-drop 4 rest) ∙ ap (λ c. take 4 rest ++ c) h.1 ∙ ap (λ w. w ++ (h.0 ++ x.1)) (sym spelled) in
        (marker ++ (word (pos k) ++ h.0), e ∙ ap (λ c. marker ++ c) (split ∙ sym (append_assoc (word (pos k)) h.0 x.1)) ∙ sym (append_assoc marker (word (pos k) ++ h.0) x.1), (has, f, at, marker, h.0, refl, m, h.2))
    value_told k f le is at (Err s) h =
        UnionStop.at_field (marks b marker rest e m.0 p m) has k (subst (λ c. Begins (pos k) c) tail (le, is)) f at
        (subst (λ c. PartStops f.ty (after_word c) inside s) tail h)

    no_tag : 4 ≤ length rest → ((k : ℕ) → first_word rest ≡ pos k → length fs ≤ k) → Outcome (Err bad_value)
    no_tag le none =
        UnionStop.at_tag (marks b marker rest e m.0 p m) has (subst (λ c. TagStop fs c inside bad_value) tail (TagStop.no_tag le none))

    field_told : (k : ℕ) → 4 ≤ length rest → first_word rest ≡ pos k → (o : Option Field) → slice_get fs k ≡ o
        → Outcome (then_field (λ f c. read f.ty inside c) k (after_word rest) o)
    field_told k le is None at = no_tag le (λ j j_is. let same : ◌≡◌ {A = ℤ} (pos k) (pos j) = sym is ∙ j_is in let k_is : k ≡ j = cc in subst (λ i. length fs ≤ i) k_is (past_end fs k at))
    field_told k le is (Some f) at = value_told k f le is at (read f.ty inside (after_word rest)) (law has f.ty inside (after_word rest) (field_type S fs k f types at) (AreBytes-drop 4 rest rest_bytes))

    word_told : (w : ℤ) → 4 ≤ length rest → first_word rest ≡ w
        → Outcome (then_alternative (λ f c. read f.ty inside c) fs (tag_of w >>= λ k. Ok (k, after_word rest)))
    word_told (negsuc k) le is = no_tag le (λ j j_is. let same : ◌≡◌ {A = ℤ} (negsuc k) (pos j) = sym is ∙ j_is in absurd cc)
    word_told (pos k) le is = field_told k le is (slice_get fs k) refl

    there_told : (short : Bool) → nat_lt (length rest) 4 ≡ short → Outcome (tagged_at (λ f c. read f.ty inside c) fs inside rest)
    unfolding tagged_at tag_at
    there_told true is = rw is (UnionStop.at_tag (marks b marker rest e m.0 p m) has (subst (λ c. TagStop fs c inside (past inside)) tail (TagStop.short (ltb-true _ _ is))))
    there_told false is = rw is (word_told (first_word rest) (ltb-false _ _ is) refl)

  pub union_told : Outcome (union_at p left nullable (λ f c. read f.ty inside c) fs inside b)
  unfolding union_at
  union_told = told_then (λ c m. MarkerReads p nullable c m) (λ c v. UnionReads p left PartReads nullable fs c v) (λ s. MarkerStop p nullable b inside s) (λ s. UnionStop p left nullable fs PartStops b inside s) b
      (λ m. marked_at left (λ c. tagged_at (λ f c. read f.ty inside c) fs inside c) m.0 m.1) (marker_at p nullable inside b)
      (marker_told p nullable inside b bytes) (λ s h. UnionStop.at_marker h) (λ m front rest e h. by_marker m front rest e h)
    where
      by_marker : (m : Bool) (front rest : List ℕ) → b ≡ front ++ rest → MarkerReads p nullable front m
          → Outcome (marked_at left (λ c. tagged_at (λ f c. read f.ty inside c) fs inside c) m rest)
      by_marker false front rest e h = (front, e, h)
      by_marker true front rest e h = by_level left refl
        where
          by_level : (l : Bool) → left ≡ l → Outcome (marked_at l (λ c. tagged_at (λ f c. read f.ty inside c) fs inside c) true rest)
          by_level false has = UnionStop.too_deep (marks b front rest e h.0 p h) has refl
          by_level true has = there_told front rest has e h (AreBytes-rest front rest (subst AreBytes e bytes)) (nat_lt (length rest) 4) refl
