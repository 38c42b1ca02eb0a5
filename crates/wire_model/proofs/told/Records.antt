-- What reading a parcelable answers is a reading of a front, or the stop.
use Rattle.std.proofs.Common.{◌≡◌, ℕ, suc, ◌+◌, ◌-◌, ◌%◌, ◌<◌, ◌≤◌, ◌^◌, ℤ, pos, negsuc, Bool, true, false, ◌&&◌, ◌==◌, cond, nat_lt, nat_le, List, [], ◌∷◌, ◌++◌, length, take, drop, Ok, Err, Result, inl, inr, refl, sym, ap, ◌∙◌, subst, arith, append_assoc}
use Rattle.std.specs.Prelude.{FitsSigned}
use Rattle.std.specs.Int.{w32}
use Rattle.std.proofs.lemmas.List.{take-append-drop, length-take-le}
use Rattle.std.proofs.lemmas.Int.{ints}
use Rattle.std.proofs.lemmas.Bool.{ltb-true, ltb-false}
use Rattle.std.proofs.lemmas.Bool.Decides.{nat_tests}
use Rattle.aidl_base.specs.declared.profile.Profile.{Profile}
use Rattle.aidl_base.specs.Words.{word}
use Rattle.aidl_schema.specs.declared.schema.Decl.{Decl}
use Rattle.aidl_schema.specs.declared.schema.Field.{Field}
use Rattle.aidl_schema.specs.declared.schema.AidlType.{AidlType}
use Rattle.aidl_schema.specs.Types.{is_type}
use Rattle.aidl_values.specs.Data.{Data, null, rec, Items, none, item}
use Rattle.aidl_values.specs.HasType.{HasType, FieldsHaveType}
use Rattle.aidl_values.specs.Sound.{AreTypes, HaveDefaults, initial_in}
use Rattle.wire_model.specs.Stop.{Stoppings, first_word, after_word, MarkerStop, HasSize, SizeStop, FieldsStop, RecordStop, fields_bytes}
use Rattle.wire_model.specs.Reads.{Readings, BodyReads, FieldsRead, IsMarker}
use Rattle.wire_model.specs.Status.{bad_value}
use Rattle.wire_model.specs.ReadOf.{Read, marker_at, marked_at, bytes_at, fields_at, size_of, body_at, body_value_at, record_at}
use Rattle.wire_model.proofs.told.Words.{Told, told_then, spells_word, word_fits, MarkerReads, marker_told, marks, after_is}
use Rattle.wire_model.proofs.lemmas.Defaults.{initials_in, are_initial, initials_typed}
use Rattle.wire_model.proofs.stopped.All.{after_len, a_size}
use Rattle.wire_model.proofs.Steps.{then_inner, then_fields, then_others, with_field, then_rec}
use Rattle.aidl_base.proofs.lemmas.Tests.{both}
use Rattle.aidl_base.proofs.lemmas.Lists.{AreBytes, AreBytes-take, AreBytes-drop, AreBytes-rest}

-- a size word, the bytes that it counts, and the rest
abbrev pub BodySplit : List ℕ → List ℕ → List ℕ → Type 0
BodySplit b inner rest = (z : ℕ) × HasSize z b × (z ≤ length b) × (inner ≡ fields_bytes z b) × (b ≡ (word (pos (4 + length inner)) ++ inner) ++ rest) × (length inner % 4 ≡ 0) × (4 + length inner < 2 ^ 31)

abbrev pub BodyTold : List ℕ → Bool → Read (List ℕ) → Type 0
BodyTold b inside (Ok x) = BodySplit b x.0 x.1
BodyTold b inside (Err s) = SizeStop b inside s

module _ (inside : Bool) (b : List ℕ) (bytes : AreBytes b) where
  split_told : (z : ℕ) → HasSize z b → (short : Bool) → nat_lt (length (after_word b)) (z - 4) ≡ short
      → BodyTold b inside (bytes_at (z - 4) inside (after_word b))
  split_told z size true is =
      let lt : length (after_word b) < z - 4 = ltb-true _ _ is in
      let four = size.1 in
      rw is (SizeStop.long_record z size (omega (arith, after_len b size.0.0)))
  split_told z size false is =
      let le = size.0.0 in
      let e = size.0.1 in
      let four = size.1 in
      let rem = size.2 in
      let within : z - 4 ≤ length (after_word b) = ltb-false _ _ is in
      let inner = take (z - 4) (after_word b) in
      let len : length inner ≡ z - 4 = length-take-le (z - 4) (after_word b) within in
      let whole : 4 + length inner ≡ z = omega arith in
      let fits : FitsSigned w32 (pos z) = subst (λ w. FitsSigned w32 w) e (word_fits b bytes) in
      let small : z < 2 ^ 31 = omega (arith, ints) in
      let head : word (pos (4 + length inner)) ≡ take 4 b = ap (λ m. word (pos m)) whole ∙ ap word (sym e) ∙ spells_word b bytes le in
      let split : b ≡ (word (pos (4 + length inner)) ++ inner) ++ drop (z - 4) (after_word b) =
      sym (take-append-drop 4 b) ∙ ap (λ c. take 4 b ++ c) (sym (take-append-drop (z - 4) (after_word b))) ∙ sym (append_assoc (take 4 b) inner (drop (z - 4) (after_word b)))
      ∙ ap (λ h. (h ++ inner) ++ drop (z - 4) (after_word b)) (sym head) in
      rw is (z, size, omega (arith, after_len b le), refl, split, omega arith, omega arith)

  size_told : (w : ℤ) → 4 ≤ length b → first_word b ≡ w → BodyTold b inside (then_inner inside (after_word b) (size_of w))
  size_told (negsuc z) le e = SizeStop.no_size le (λ y size. let w : ◌≡◌ {A = ℤ} (negsuc z) (pos y) = sym e ∙ size.0.1 in absurd cc)
  size_told (pos z) le e = by_test (nat_le 4 z && (z % 4 == 0)) refl
    where
      by_test : (t : Bool) → (nat_le 4 z && (z % 4 == 0)) ≡ t
          → BodyTold b inside (then_inner inside (after_word b) (cond (nat_le 4 z && (z % 4 == 0)) (Ok z) (Err bad_value)))
      by_test true is =
          let two = both (nat_le 4 z) (z % 4 == 0) is in
          let four : 4 ≤ z = grind (arith, nat_tests, two.0) in
          let rem : z % 4 ≡ 0 = grind (arith, nat_tests, two.1) in
          rw is (split_told z ((le, e), four, rem) (nat_lt (length (after_word b)) (z - 4)) refl)
      by_test false is = rw is (SizeStop.no_size le (λ y size. other y size.0.1 size.1 size.2))
        where
          other : (y : ℕ) → first_word b ≡ pos y → 4 ≤ y → y % 4 ≡ 0 → ⊥
          other y k four rem =
              let w : ◌≡◌ {A = ℤ} (pos z) (pos y) = sym e ∙ k in
              let same : z ≡ y = cc in
              let good : size_of (pos z) ≡ Ok z = a_size z (subst (λ m. 4 ≤ m) (sym same) four) (subst (λ m. m % 4 ≡ 0) (sym same) rem) in
              let bad : size_of (pos z) ≡ Err bad_value = rw is refl in
              let wrong : ◌≡◌ {A = Result ℕ ℤ} (Ok z) (Err bad_value) = sym good ∙ bad in
              absurd cc

  pub body_told : (short : Bool) → nat_lt (length b) 4 ≡ short → BodyTold b inside (body_at inside b)
  unfolding body_at
  body_told true e = rw e (SizeStop.short (ltb-true _ _ e))
  body_told false e = let le : 4 ≤ length b = ltb-false _ _ e in rw e (size_told (first_word b) le refl)

-- the fields of a record whose bytes these are
abbrev pub FieldsTold : List Decl → Readings → Stoppings → List Field → List ℕ → Result Items ℤ → Type 0
FieldsTold S PartReads PartStops fs b (Ok vs) = FieldsRead S PartReads fs b vs × FieldsHaveType S fs vs
FieldsTold S PartReads PartStops fs b (Err s) = FieldsStop fs PartReads PartStops b s

module _ (S : List Decl) (PartReads : Readings) (PartStops : Stoppings) (read : AidlType → List ℕ → Read Data)
    (typed : (t : AidlType) (c : List ℕ) (v : Data) → PartReads t c v → HasType S t v)
    (law : (t : AidlType) (c : List ℕ) → is_type S t ≡ true → AreBytes c → Told (PartReads t) (λ s. PartStops t c true s) c (read t c)) where
  at_end : (fs : List Field) → fields_at (λ f. initial_in S f) (λ f c. read f.ty c) fs [] ≡ Ok (initials_in S fs)
  at_end [] = refl
  at_end (f ∷ fs) = ap (with_field (initial_in S f)) (at_end fs)

  later : (f : Field) (fs : List Field) (b front rest : List ℕ) (v : Data) → b ≡ front ++ rest → PartReads f.ty front v → (y : Result Items ℤ)
      → FieldsTold S PartReads PartStops fs rest y → FieldsTold S PartReads PartStops (f ∷ fs) b (with_field v y)
  later f fs b front rest v e h (Ok vs) k = (inr (front, rest, e, h, k.0), (typed f.ty front v h, k.1))
  later f fs b front rest v e h (Err s) (FieldsStop.at_field i g at vs front' rest' e' there left stop) =
      FieldsStop.at_field (suc i) g at (item v vs) (front ++ front') rest' (e ∙ ap (λ c. front ++ c) e' ∙ sym (append_assoc front front' rest')) (front, front', refl, h, there) left stop

  pub fields_told : (fs : List Field) (b : List ℕ) → AreBytes b → AreTypes S fs → HaveDefaults S fs
      → FieldsTold S PartReads PartStops fs b (fields_at (λ f. initial_in S f) (λ f c. read f.ty c) fs b)
  fields_told [] b bytes types all = (tt, tt)
  fields_told (f ∷ fs) [] bytes types all =
      subst (λ y. FieldsTold S PartReads PartStops (f ∷ fs) [] y) (sym (at_end (f ∷ fs))) (inl (refl, are_initial S (f ∷ fs) all), initials_typed S (f ∷ fs) all)
  fields_told (f ∷ fs) (x ∷ b) bytes types all =
      one_told (read f.ty (x ∷ b)) (law f.ty (x ∷ b) types.0 bytes) (λ c h. fields_told fs c h types.1 all.1)
    where
      one_told : (y : Read Data) → Told (PartReads f.ty) (λ s. PartStops f.ty (x ∷ b) true s) (x ∷ b) y
          → ((c : List ℕ) → AreBytes c → FieldsTold S PartReads PartStops fs c (fields_at (λ f. initial_in S f) (λ f c. read f.ty c) fs c))
          → FieldsTold S PartReads PartStops (f ∷ fs) (x ∷ b) (then_others (λ f. initial_in S f) (λ f c. read f.ty c) fs y)
      one_told (Ok y) h ih = later f fs (x ∷ b) h.0 y.1 y.0 h.1 h.2 (fields_at (λ f. initial_in S f) (λ f c. read f.ty c) fs y.1) (ih y.1 (AreBytes-rest h.0 y.1 (subst AreBytes h.1 bytes)))
      one_told (Err s) h ih = FieldsStop.at_field 0 f refl none [] (x ∷ b) refl refl (λ k. absurd cc) h

-- what is read at a record's place; `left` says that a level is left
abbrev pub RecordReads : Profile → Bool → List Decl → Readings → Bool → List Field → List ℕ → Data → Type 0
RecordReads p left S PartReads nullable fs front null = (nullable ≡ true) × (front ≡ word (pos 0))
RecordReads p left S PartReads nullable fs front (rec vs) = (left ≡ true) × (marker rest : List ℕ) × (front ≡ marker ++ rest) × IsMarker p marker × BodyReads S PartReads fs rest vs × FieldsHaveType S fs vs
RecordReads p left S PartReads nullable fs front _ = ⊥

module _ (p : Profile) (left : Bool) (S : List Decl) (PartReads : Readings) (PartStops : Stoppings) (read : AidlType → Bool → List ℕ → Read Data)
    (typed : (t : AidlType) (c : List ℕ) (v : Data) → PartReads t c v → HasType S t v)
    (law : left ≡ true → (t : AidlType) (j : Bool) (c : List ℕ) → is_type S t ≡ true → AreBytes c → Told (PartReads t) (λ s. PartStops t c j s) c (read t j c))
    (nullable inside : Bool) (fs : List Field) (types : AreTypes S fs) (b : List ℕ) (bytes : AreBytes b) where
  abbrev Outcome : Read Data → Type 0
  Outcome = λ x. Told (λ c v. RecordReads p left S PartReads nullable fs c v) (λ s. RecordStop p left nullable fs PartReads PartStops b inside s) b x

  -- after the marker
  module _ (marker rest : List ℕ) (has : left ≡ true) (all : HaveDefaults S fs) (e : b ≡ marker ++ rest) (m : IsMarker p marker) where
    tail : rest ≡ after_word b
    tail = sym (after_is b marker rest e m.0)

    there_told : (y : Read (List ℕ)) → BodyTold rest inside y → Outcome (then_fields (λ f. initial_in S f) (λ f c. read f.ty true c) fs y)
    there_told (Err s) h = RecordStop.at_size (marks b marker rest e m.0 p m) has (subst (λ c. SizeStop c inside s) tail h)
    there_told (Ok y) h =
        by_fields (fields_at (λ f. initial_in S f) (λ f c. read f.ty true c) fs y.0) (fields_told S PartReads PartStops (λ u c. read u true c) typed (λ t c type k. law has t true c type k) fs y.0 inner_bytes types all)
      where
        rest_bytes : AreBytes rest
        rest_bytes = AreBytes-rest marker rest (subst AreBytes e bytes)

        inner_bytes : AreBytes y.0
        inner_bytes = subst AreBytes (sym h.3) (AreBytes-take (h.0 - 4) (after_word rest) (AreBytes-drop 4 rest rest_bytes))

        by_fields : (x : Result Items ℤ) → FieldsTold S PartReads PartStops fs y.0 x → Outcome (then_rec y.1 x)
        by_fields (Ok vs) k =
            let front = word (pos (4 + length y.0)) ++ y.0 in
            let split : b ≡ (marker ++ front) ++ y.1 = e ∙ ap (λ c. marker ++ c) h.4 ∙ sym (append_assoc marker front y.1) in
            (marker ++ front, split, (has, marker, front, refl, m, (y.0, refl, h.5, h.6, k.0), k.1))
        by_fields (Err s) k =
            RecordStop.at_fields (marks b marker rest e m.0 p m) has h.0 (subst (λ c. HasSize h.0 c) tail h.1) (subst (λ c. h.0 ≤ length c) tail h.2)
            (subst (λ c. FieldsStop fs PartReads PartStops c s) (h.3 ∙ ap (fields_bytes h.0) tail) k)

  pub record_told : HaveDefaults S fs → Outcome (record_at p left nullable (λ f. initial_in S f) (λ f c. read f.ty true c) fs inside b)
  unfolding record_at body_value_at
  record_told all = told_then (λ c m. MarkerReads p nullable c m) (λ c v. RecordReads p left S PartReads nullable fs c v) (λ s. MarkerStop p nullable b inside s) (λ s. RecordStop p left nullable fs PartReads PartStops b inside s) b
      (λ m. marked_at left (λ c. body_value_at (λ f. initial_in S f) (λ f c. read f.ty true c) fs inside c) m.0 m.1) (marker_at p nullable inside b)
      (marker_told p nullable inside b bytes) (λ s h. RecordStop.at_marker h) (λ m front rest e h. by_marker m front rest e h)
    where
      by_marker : (m : Bool) (front rest : List ℕ) → b ≡ front ++ rest → MarkerReads p nullable front m
          → Outcome (marked_at left (λ c. body_value_at (λ f. initial_in S f) (λ f c. read f.ty true c) fs inside c) m rest)
      by_marker false front rest e h = (front, e, h)
      by_marker true front rest e h = by_level left refl
        where
          by_level : (l : Bool) → left ≡ l → Outcome (marked_at l (λ c. body_value_at (λ f. initial_in S f) (λ f c. read f.ty true c) fs inside c) true rest)
          by_level false has = RecordStop.too_deep (marks b front rest e h.0 p h) has refl
          by_level true has = there_told front rest has all e h (body_at inside rest) (body_told inside rest (AreBytes-rest front rest (subst AreBytes e bytes)) (nat_lt (length rest) 4) refl)
