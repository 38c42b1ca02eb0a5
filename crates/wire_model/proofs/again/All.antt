-- What is read is read again, whatever follows it: every type of a sound schema.
use Rattle.std.proofs.Common.{◌≡◌, ◌≢◌, ℕ, zero, suc, ◌+◌, ◌-◌, ◌%◌, ◌<◌, ◌≤◌, ◌^◌, max, ℤ, pos, negsuc, Bool, true, false, ◌&&◌, ◌==◌, nat_le, List, [], ◌∷◌, ◌++◌, length, Option, Some, None, Ok, inl, inr, refl, sym, ap, ◌∙◌, subst, arith, length-append, append_assoc, true≢false}
use Rattle.std.specs.Prelude.{MatchBool, MatchOption}
use Rattle.std.proofs.lemmas.List.{append-nil}
use Rattle.std.proofs.lemmas.Bool.Decides.{nat_tests}
use Rattle.aidl_base.specs.declared.profile.Profile.{Profile}
use Rattle.aidl_base.specs.Profiles.{is_truth_word, truth_of, IsPadded}
use Rattle.aidl_base.specs.Words.{word, units}
use Rattle.aidl_base.specs.declared.constant.Const.{Const}
use Rattle.aidl_schema.specs.declared.schema.Decl.{Decl}
use Rattle.aidl_schema.specs.declared.schema.Field.{Field}
use Rattle.aidl_schema.specs.declared.schema.AidlType.{AidlType}
use Rattle.aidl_schema.specs.Types.{Form, form_of, is_one, is_raw, is_array, is_byte, is_type, is_meant, is_well_shaped, is_nullable_form, elem}
use Rattle.aidl_schema.specs.Types as form
use Rattle.aidl_values.specs.Data.{Data, null, truth, number, text, seq, rec, alt, Items, none, item, count, depth_of}
use Rattle.aidl_values.specs.Default.{IsZero, AreInitial, const_value}
use Rattle.aidl_values.specs.HasType.{HaveType}
use Rattle.aidl_values.specs.Sound.{initial_in, HaveDefaults, AreTypes}
use Rattle.wire_model.specs.Reads.{Readings, Reads, EachReads, FieldsRead, NumberReads, IsMarker}
use Rattle.wire_model.specs.Spell.{null_word, raw_bytes}
use Rattle.wire_model.specs.ReadOf.{Read, read_as, text_data, one_at, count_at, array_at, elements_at, marker_at, body_at, field_at, fields_at, body_value_at, record_at, tag_at, tagged_at, union_at, read_of}
use Rattle.aidl_values.proofs.lemmas.OneZero.{one_zero}
use Rattle.wire_model.proofs.Parts.{read_of-parts}
use Rattle.wire_model.proofs.again.Words.{number_again, each_again}
use Rattle.aidl_base.proofs.lemmas.Blocks.{bytes_again}
use Rattle.wire_model.proofs.again.Texts.{AreByteNumbers, raw_items_again}
use Rattle.aidl_base.proofs.lemmas.Spelled.{text_again}
use Rattle.aidl_base.proofs.lemmas.Values.{is_word_again, truth_word}
use Rattle.wire_model.proofs.Forms.{elem_is_type, well_one, raw_form}
use Rattle.wire_model.proofs.lemmas.Sound.{IsWhole, field_type}
use Rattle.wire_model.proofs.Steps.{text_block_at, text_value_steps, then_marker, then_size, then_tag, then_text, then_elements, then_seq, then_there, then_fields, then_others, with_field, then_rec, then_alternative, then_field, with_tag}
use Rattle.aidl_schema.specs.Constants.{in_range}
use Rattle.aidl_base.proofs.lemmas.Ranges.{byte_fits}
use Rattle.aidl_base.proofs.lemmas.Tests.{and_false, both}
use Rattle.std.proofs.lemmas.Option.{slice_get_within}
use Rattle.aidl_base.proofs.lemmas.Lists.{no_front}
use Rattle.aidl_base.proofs.lemmas.Words.{word_again, fits_pos, count_again, null_again}
use Rattle.wire_model.specs.steps.Levels.{read_parts}
use Rattle.aidl_values.specs.steps.Levels.{is_level_left}

-- one default
unique_zero : (S : List Decl) (t : AidlType) (v w : Data) → IsZero S t v → IsZero S t w → v ≡ w
unique_zero S t v w h k = one_zero S (max (depth_of v) (depth_of w)) t v h (omega arith) ∙ sym (one_zero S (max (depth_of v) (depth_of w)) t w k (omega arith))

pub unique_initial : (S : List Decl) (t : AidlType) (o : Option Const) (v w : Data) → MatchOption o (IsZero S t v) (λ c. v ≡ const_value c)
    → MatchOption o (IsZero S t w) (λ c. w ≡ const_value c) → v ≡ w
unique_initial S t None v w h k = unique_zero S t v w h k
unique_initial S t (Some c) v w h k = h ∙ sym k

pub marker_again : (p : Profile) (nullable inside : Bool) (marker r : List ℕ) → IsMarker p marker → marker_at p nullable inside (marker ++ r) ≡ Ok (true, r)
unfolding marker_at
marker_again p nullable inside marker r is = ap (then_marker nullable) (is_word_again (λ w. is_truth_word p w) truth_of inside r marker true is)

marker_null : (p : Profile) (inside : Bool) (r : List ℕ) → marker_at p true inside (word (pos 0) ++ r) ≡ Ok (false, r)
unfolding marker_at
marker_null p inside r = ap (then_marker true) (is_word_again (λ w. is_truth_word p w) truth_of inside r (word (pos 0)) false (truth_word p false))

body_again : (inside : Bool) (inner r : List ℕ) → length inner % 4 ≡ 0 → 4 + length inner < 2 ^ 31
    → body_at inside ((word (pos (4 + length inner)) ++ inner) ++ r) ≡ Ok (inner, r)
unfolding body_at
body_again inside inner r whole small =
    let z = 4 + length inner in
    let four : (nat_le 4 z && (z % 4 == 0)) ≡ true = size_ok z (omega arith) (omega arith) in
    let cut : length inner ≡ z - 4 = omega arith in
    ap (then_size inside) (word_again (pos z) inside (inner ++ r) (fits_pos z small))
    ∙ rw four (bytes_again (z - 4) inside inner r cut)
  where
    size_ok : (z : ℕ) → 4 ≤ z → z % 4 ≡ 0 → (nat_le 4 z && (z % 4 == 0)) ≡ true
    size_ok z le e = let a : nat_le 4 z ≡ true = grind (arith, nat_tests) in let b : (z % 4 == 0) ≡ true = grind (arith, nat_tests) in rw (a, b) refl

starts : (n : ℤ) (rest b : List ℕ) → b ≡ word n ++ rest → b ≢ []
starts n rest b e k = absurd (omega (arith, ap length (sym e ∙ k), length-append (word n) rest))

four_some : (b : List ℕ) → length b ≡ 4 → b ≢ []
four_some b e k = absurd (omega (arith, ap length k))

number_starts : (p : Profile) (f : Form) (n : ℤ) (b : List ℕ) → NumberReads p f b n → b ≢ []
number_starts p form.byte n b h k = four_some b h.0 k
number_starts p form.char n b h k = four_some b h.0 k
number_starts p form.long n b h k = absurd (omega (arith, ap length (sym h ∙ k)))
number_starts p form.truth n b h k = absurd (omega (arith, ap length (sym h ∙ k)))
number_starts p form.int n b h k = absurd (omega (arith, ap length (sym h ∙ k)))
number_starts p form.text n b h k = absurd (omega (arith, ap length (sym h ∙ k)))
number_starts p (form.parcelable fs) n b h k = absurd (omega (arith, ap length (sym h ∙ k)))
number_starts p (form.union fs) n b h k = absurd (omega (arith, ap length (sym h ∙ k)))
number_starts p form.nothing n b h k = absurd (omega (arith, ap length (sym h ∙ k)))

marker_starts : (marker rest b : List ℕ) → length marker ≡ 4 → b ≡ marker ++ rest → b ≢ []
marker_starts marker rest b four e k = absurd (omega (arith, ap length (sym e ∙ k), length-append marker rest, four))

-- no reading is empty
pub reads_some : (p : Profile) (S : List Decl) (d : ℕ) (t : AidlType) (b : List ℕ) (v : Data) → Reads p S d t b v → b ≢ []
reads_some p S d t b null h k = absurd (omega (arith, ap length (sym h.1 ∙ k)))
reads_some p S d t b (truth x) h k = four_some b h.1.0 k
reads_some p S d t b (number n) h k = number_starts p (form_of S t.base) n b h.1 k
reads_some p S d t b (text x) h k = starts (pos (length (units x))) h.2 b h.3 k
reads_some p S zero t b (seq vs) h k = elim h [ ]
reads_some p S zero t b (rec vs) h k = elim h [ ]
reads_some p S zero t b (alt k v) h e = elim h [ ]
reads_some p S (suc d) t b (seq vs) h k = starts (pos (count vs)) h.2 b h.3 k
reads_some p S (suc d) t b (rec vs) h k = marker_starts h.3 h.4 b h.6.0 h.5 k
reads_some p S (suc d) t b (alt k v) h e = marker_starts h.5 (word (pos k) ++ h.6) b h.8.0 h.7 e

module _ (S : List Decl) (PartReads : Readings) (read : AidlType → List ℕ → Read Data)
    (law : (t : AidlType) (b r : List ℕ) (v : Data) → is_type S t ≡ true → PartReads t b v → read t (b ++ r) ≡ Ok (v, r)) (some : (t : AidlType) (b : List ℕ) (v : Data) → PartReads t b v → b ≢ []) where
  defaults_again : (fs : List Field) (vs : Items) → AreInitial S fs vs → HaveDefaults S fs → fields_at (λ f. initial_in S f) (λ f c. read f.ty c) fs [] ≡ Ok vs
  defaults_again [] none h all = refl
  defaults_again [] (item v vs) h all = elim h [ ]
  defaults_again (f ∷ fs) none h all = elim h [ ]
  defaults_again (f ∷ fs) (item v vs) h all =
      let head : v ≡ initial_in S f = unique_initial S f.ty f.initial v (initial_in S f) h.0 all.0.0 in
      ap (with_field (initial_in S f)) (defaults_again fs vs h.1 all.1) ∙ ap (λ d. Ok (item d vs)) (sym head)

  field_there : (f : Field) (b : List ℕ) → b ≢ [] → field_at (λ f. initial_in S f) (λ f c. read f.ty c) f b ≡ read f.ty b
  field_there f [] some = absurd (some refl)
  field_there f (x ∷ b) some = refl

  fields_again : (fs : List Field) (vs : Items) (b : List ℕ) → FieldsRead S PartReads fs b vs → AreTypes S fs → HaveDefaults S fs
      → fields_at (λ f. initial_in S f) (λ f c. read f.ty c) fs b ≡ Ok vs
  fields_again [] none b h types all = refl
  fields_again [] (item v vs) b h types all = elim h [ ]
  fields_again (f ∷ fs) none b h types all = elim h [ ]
  fields_again (f ∷ fs) (item v vs) b (inl h) types all = ap (λ c. fields_at (λ f. initial_in S f) (λ f c. read f.ty c) (f ∷ fs) c) h.0 ∙ defaults_again (f ∷ fs) (item v vs) h.1 all
  fields_again (f ∷ fs) (item v vs) b (inr h) types all =
      let front = h.0 in
      let rest = h.1 in
      let present : b ≢ [] = λ k. some f.ty front v h.3 (no_front front rest (sym h.2 ∙ k)) in
      let first : field_at (λ f. initial_in S f) (λ f c. read f.ty c) f b ≡ Ok (v, rest) = field_there f b present ∙ ap (read f.ty) h.2 ∙ law f.ty front rest v types.0 h.3 in
      ap (then_others (λ f. initial_in S f) (λ f c. read f.ty c) fs) first
      ∙ ap (with_field v) (fields_again fs vs rest h.4 types.1 all.1)

module _ (p : Profile) (S : List Decl) (sound : IsWhole S) where
  one : (d : ℕ) (t : AidlType) (inside : Bool) (c : List ℕ) (x : Read Data) → is_one t.shape ≡ true
      → one_at p (is_level_left d) (λ f. initial_in S f) (λ u j e. read_parts p S d u j e) t.nullable (form_of S t.base) inside c ≡ x → read_of p S d t inside c ≡ x
  one d t inside c x is h = read_of-parts p S d t inside c ∙ rw is h

  sequence : (d : ℕ) (t : AidlType) (inside : Bool) (c : List ℕ) (x : Read Data) → is_one t.shape ≡ false
      → array_at p (is_level_left d) (is_raw S t) t.nullable (λ e. read_parts p S d (elem S t) inside e) inside c ≡ x → read_of p S d t inside c ≡ x
  sequence d t inside c x is h = read_of-parts p S d t inside c ∙ rw is h

  -- null of shape one: a text, a parcelable or a union
  null_one : (left : Bool) (initial : Field → Data) (read : AidlType → Bool → List ℕ → Read Data) (nullable inside : Bool) (f : Form) (r : List ℕ)
      → is_nullable_form f ≡ true → nullable ≡ true
      → one_at p left initial read nullable f inside (word (null_word f) ++ r) ≡ Ok (null, r)
  unfolding text_block_at record_at union_at
  null_one left initial read nullable inside form.text r may is = text_value_steps p nullable inside (word (null_word form.text) ++ r) ∙ rw is (ap (then_text p inside) (null_again inside r))
  null_one left initial read nullable inside (form.parcelable fs) r may is = rw is (ap (then_there left (λ c. body_value_at initial (λ f b. read f.ty true b) fs inside c)) (marker_null p inside r))
  null_one left initial read nullable inside (form.union fs) r may is = rw is (ap (then_there left (λ c. tagged_at (λ f b. read f.ty inside b) fs inside c)) (marker_null p inside r))
  null_one left initial read nullable inside form.truth r may is = absurd (true≢false (sym may))
  null_one left initial read nullable inside form.byte r may is = absurd (true≢false (sym may))
  null_one left initial read nullable inside form.char r may is = absurd (true≢false (sym may))
  null_one left initial read nullable inside form.int r may is = absurd (true≢false (sym may))
  null_one left initial read nullable inside form.long r may is = absurd (true≢false (sym may))
  null_one left initial read nullable inside form.nothing r may is = absurd (true≢false (sym may))

  null_of : (d : ℕ) (t : AidlType) (inside : Bool) (b r : List ℕ) (shape_one : Bool) → is_one t.shape ≡ shape_one → is_type S t ≡ true
      → Reads p S d t b null → read_of p S d t inside (b ++ r) ≡ Ok (null, r)
  unfolding array_at elements_at
  null_of d t inside b r true is type h =
      let spelled : b ≡ word (null_word (form_of S t.base)) = h.1 ∙ rw is refl in
      let shaped : is_well_shaped t.shape true (form_of S t.base) ≡ true = subst (λ n. is_well_shaped t.shape n (form_of S t.base) ≡ true) h.0 (both (is_meant (form_of S t.base)) (is_well_shaped t.shape t.nullable (form_of S t.base)) type).1 in
      let may = well_one t.shape (form_of S t.base) is shaped in
      one d t inside (b ++ r) _ is (rw spelled (null_one (is_level_left d) (λ f. initial_in S f) (λ u j e. read_parts p S d u j e) t.nullable inside (form_of S t.base) r may h.0))
  null_of d t inside b r false is type h =
      let spelled : b ≡ word (negsuc 0) = h.1 ∙ rw is refl in
      let counted : count_at t.nullable inside (b ++ r) ≡ Ok (None, r) = rw (h.0, spelled) (null_again inside r) in
      sequence d t inside (b ++ r) _ is (ap (then_elements p (is_level_left d) (is_raw S t) (λ e. read_parts p S d (elem S t) inside e) inside) counted)

  pub are_bytes : (t : AidlType) (vs : Items) → form_of S t.base ≡ form.byte → HaveType S (elem S t) vs → AreByteNumbers vs
  are_bytes t none byte h = tt
  are_bytes t (item (number n) vs) byte h = (n, refl, byte_fits n (subst (λ f. in_range f n ≡ true) byte h.0.1), are_bytes t vs byte h.1)
  are_bytes t (item null vs) byte h = absurd (true≢false (sym h.0 ∙ rw byte (and_false t.nullable)))
  are_bytes t (item (truth x) vs) byte h = let e : form.byte ≡ form.truth = sym byte ∙ h.0.1 in absurd cc
  are_bytes t (item (text x) vs) byte h = let e : form.byte ≡ form.text = sym byte ∙ h.0.1 in absurd cc
  are_bytes t (item (seq ws) vs) byte h = absurd (true≢false h.0.0)
  are_bytes t (item (rec ws) vs) byte h = let e : form.byte ≡ form.parcelable h.0.1 = sym byte ∙ h.0.2 in absurd cc
  are_bytes t (item (alt k w) vs) byte h = let e : form.byte ≡ form.union h.0.1 = sym byte ∙ h.0.2 in absurd cc

  -- a sequence after its count
  elements_again : (d : ℕ) (t : AidlType) (inside : Bool) (vs : Items) (rest r : List ℕ) (raw : Bool) → is_raw S t ≡ raw → HaveType S (elem S t) vs
      → ((c q : List ℕ) (v : Data) → Reads p S d (elem S t) c v → read_of p S d (elem S t) inside (c ++ q) ≡ Ok (v, q))
      → MatchBool raw (IsPadded p (raw_bytes vs) rest) (EachReads (λ front v. Reads p S d (elem S t) front v) rest vs)
      → elements_at p true (is_raw S t) (λ e. read_of p S d (elem S t) inside e) inside (Some (count vs)) (rest ++ r) ≡ Ok (seq vs, r)
  unfolding elements_at
  elements_again d t inside vs rest r true raw h law read =
      let byte = raw_form S t raw in
      rw raw (ap (then_seq) (raw_items_again p inside vs rest r (are_bytes t vs byte h) read))
  elements_again d t inside vs rest r false raw h law read =
      rw raw (ap (then_seq) (each_again (λ front v. Reads p S d (elem S t) front v) (λ e. read_of p S d (elem S t) inside e) law vs rest r read))

  pub again : (d : ℕ) (t : AidlType) (inside : Bool) (v : Data) (b r : List ℕ) → is_type S t ≡ true → Reads p S d t b v
      → read_of p S d t inside (b ++ r) ≡ Ok (v, r)
  unfolding array_at record_at body_value_at union_at tagged_at tag_at
  again d t inside null b r type h = null_of d t inside b r (is_one t.shape) refl type h
  again d t inside (truth x) b r type h = one d t inside (b ++ r) _ h.0.0 (rw h.0.1 (ap (read_as truth) (is_word_again (λ w. is_truth_word p w) truth_of inside r b x h.1)))
  again d t inside (number n) b r type h = one d t inside (b ++ r) _ h.0.0 (number_again p (is_level_left d) (λ f. initial_in S f) (λ u j e. read_parts p S d u j e) t.nullable inside r (form_of S t.base) n b h.0.1 h.1)
  again d t inside (text x) b r type h = one d t inside (b ++ r) _ h.0.0 (rw (h.0.1, h.3) (ap (read_as text_data) (text_again p t.nullable x h.2 inside r h.0.2 h.1 h.4)))
  again zero t inside (seq vs) b r type h = elim h [ ]
  again zero t inside (rec vs) b r type h = elim h [ ]
  again zero t inside (alt k v) b r type h = elim h [ ]
  again (suc d) t inside (seq vs) b r type h =
      let rest = h.2 in
      let elem_is = elem_is_type S t type in
      let counted : count_at t.nullable inside (b ++ r) ≡ Ok (Some (count vs), rest ++ r) = rw h.3 (count_again t.nullable (count vs) inside (rest ++ r) h.1) in
      sequence (suc d) t inside (b ++ r) _ h.0.0
      (ap (then_elements p true (is_raw S t) (λ e. read_of p S d (elem S t) inside e) inside) counted
      ∙ elements_again d t inside vs rest r (is_raw S t) refl h.0.1 (λ c q v f. again d (elem S t) inside v c q elem_is f) h.4)
  again (suc d) t inside (rec vs) b r type h =
      let fs = h.1 in
      let marker = h.3 in
      let rest = h.4 in
      let inner = h.7.0 in
      let whole = sound.fields t.base fs h.2 in
      let marked : marker_at p t.nullable inside (b ++ r) ≡ Ok (true, rest ++ r) = rw (h.5, append_assoc marker rest r) (marker_again p t.nullable inside marker (rest ++ r) h.6) in
      let bodied : body_at inside (rest ++ r) ≡ Ok (inner, r) = rw h.7.1 (body_again inside inner r h.7.2 h.7.3) in
      let read : fields_at (λ f. initial_in S f) (λ f e. read_of p S d f.ty true e) fs inner ≡ Ok vs =
      fields_again S (λ u front v. Reads p S d u front v) (λ u e. read_of p S d u true e) (λ u c q v type f. again d u true v c q type f) (λ u c v f. reads_some p S d u c v f) fs vs inner h.7.4 whole.0 whole.1 in
      one (suc d) t inside (b ++ r) _ h.0.0
      (rw h.2
      (ap (then_there true (λ c. body_value_at (λ f. initial_in S f) (λ f e. read_of p S d f.ty true e) fs inside c)) marked
      ∙ ap (then_fields (λ f. initial_in S f) (λ f e. read_of p S d f.ty true e) fs) bodied
      ∙ ap (then_rec r) read))
  again (suc d) t inside (alt k v) b r type h =
      let fs = h.1 in
      let f = h.3 in
      let marker = h.5 in
      let rest = h.6 in
      let whole = sound.tags t.base fs h.2 in
      let few : length fs ≤ 4096 = whole.1 in
      let lt : k < 2 ^ 31 = omega (arith, slice_get_within fs k f h.4) in
      let marked : marker_at p t.nullable inside (b ++ r) ≡ Ok (true, word (pos k) ++ (rest ++ r)) = rw (h.7, append_assoc marker (word (pos k) ++ rest) r) (marker_again p t.nullable inside marker (word (pos k) ++ (rest ++ r)) h.8) in
      let tagged : tag_at inside (word (pos k) ++ (rest ++ r)) ≡ Ok (k, rest ++ r) = ap (then_tag) (word_again (pos k) inside (rest ++ r) (fits_pos k lt)) in
      let read = again d f.ty inside v rest r (field_type S fs k f whole.0 h.4) h.9 in
      one (suc d) t inside (b ++ r) _ h.0.0
      (rw h.2
      (ap (then_there true (λ c. tagged_at (λ f e. read_of p S d f.ty inside e) fs inside c)) marked
      ∙ ap (then_alternative (λ f e. read_of p S d f.ty inside e) fs) tagged
      ∙ ap (then_field (λ f e. read_of p S d f.ty inside e) k (rest ++ r)) h.4
      ∙ ap (with_tag k) read))

  -- a reading and a longer one of the same type are one
  pub one_reading : (d : ℕ) (t : AidlType) (v w : Data) (b c rest : List ℕ) → is_type S t ≡ true → Reads p S d t b v → Reads p S d t c w → c ≡ b ++ rest
      → (b ≡ c) × (v ≡ w)
  one_reading d t v w b c rest type h k front =
      let first : read_of p S d t false (b ++ rest) ≡ Ok (v, rest) = again d t false v b rest type h in
      let second : read_of p S d t false (c ++ []) ≡ Ok (w, []) = again d t false w c [] type k in
      let same : ◌≡◌ {A = Read Data} (Ok (v, rest)) (Ok (w, [])) = sym first ∙ ap (λ e. read_of p S d t false e) (sym front ∙ sym (append-nil c)) ∙ second in
      let pair : ◌≡◌ {A = Data × List ℕ} (v, rest) (w, []) = cc in
      (sym (append-nil b) ∙ ap (λ e. b ++ e) (sym (ap (λ p. p.1) pair)) ∙ sym front, ap (λ p. p.0) pair)
