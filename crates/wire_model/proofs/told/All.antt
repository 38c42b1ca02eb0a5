-- What reading as a function answers is a reading of a front, or the stop: every type of a sound schema.
use Rattle.std.proofs.Common.{◌≡◌, ℕ, zero, suc, ◌<◌, ◌^◌, ℤ, pos, Bool, true, false, nat_lt, List, ◌++◌, length, Some, slice_get, Err, refl, sym, ap, ◌∙◌, subst, true≢false}
use Rattle.std.specs.Prelude.{MatchBool, FitsSigned}
use Rattle.std.specs.Int.{w32, w64}
use Rattle.aidl_base.specs.declared.profile.Profile.{Profile}
use Rattle.aidl_base.specs.declared.range.Range.TheVariants as range
use Rattle.aidl_base.specs.Ranges.{is_in}
use Rattle.aidl_base.specs.Profiles.{is_truth_word, truth_of, is_byte_word, byte_of, is_char_word, char_of, IsWord, IsPadded, IsTextBlock}
use Rattle.aidl_base.specs.Words.{word, word_of, long_word, units}
use Rattle.aidl_schema.specs.declared.schema.Decl.{Decl}
use Rattle.aidl_schema.specs.declared.schema.Field.{Field}
use Rattle.aidl_schema.specs.declared.schema.AidlType.{AidlType}
use Rattle.aidl_schema.specs.Types.{Form, form_of, is_one, is_raw, is_type, is_meant, is_well_shaped, elem}
use Rattle.aidl_schema.specs.Types as form
use Rattle.aidl_values.specs.Data.{Data, null, truth, number, text, seq, rec, alt, count}
use Rattle.aidl_values.specs.Sound.{initial_in}
use Rattle.aidl_values.specs.HasType.{HasType}
use Rattle.wire_model.specs.Stop.{Stoppings, Stop, StopBy, OneStop, WordStop, LongStop, TextStop, SequenceStop, RecordStop, UnionStop}
use Rattle.wire_model.specs.Reads.{Readings, NumberReads, IsMarker, Reads, EachReads, BodyReads}
use Rattle.wire_model.specs.Spell.{spell, raw_bytes}
use Rattle.wire_model.specs.Status.{bad_value}
use Rattle.wire_model.specs.ReadOf.{Read, read_as, char_data, text_data, word_at, long_at, truth_at, byte_at, char_at, text_at, one_at, record_at, union_at, array_at, read_by, read_of}
use Rattle.wire_model.proofs.Forms.{elem_is_type}
use Rattle.wire_model.proofs.lemmas.Sound.{IsWhole}
use Rattle.wire_model.proofs.told.Words.{Told, told_as, told_value, word_as_told, word_told, long_told}
use Rattle.wire_model.proofs.told.Texts.{TextReads, text_told}
use Rattle.wire_model.proofs.told.Records.{RecordReads, record_told}
use Rattle.wire_model.proofs.told.Unions.{UnionReads, union_told}
use Rattle.wire_model.proofs.told.Sequences.{SequenceReads, sequence_told}
use Rattle.aidl_base.proofs.lemmas.Ranges.{fits_byte, fits_int, fits_long, below_char}
use Rattle.aidl_base.proofs.lemmas.Profiles.{byte_of-fits, char_of-below}
use Rattle.aidl_base.proofs.lemmas.Tests.{both}
use Rattle.aidl_base.proofs.lemmas.Lists.{AreBytes}

-- a word means a byte, and a char
is_byte : (w n : ℤ) → byte_of w ≡ n → is_in range.Byte n ≡ true
is_byte w n e = subst (λ m. is_in range.Byte m ≡ true) e (fits_byte (byte_of w) (byte_of-fits w))

is_char : (w : ℤ) (n : ℕ) → char_of w ≡ n → is_in range.Char (pos n) ≡ true
is_char w n e = subst (λ m. is_in range.Char (pos m) ≡ true) e (below_char (char_of w) (char_of-below w))

-- what is read has the type
pub reads_type : (p : Profile) (S : List Decl) (d : ℕ) (t : AidlType) (b : List ℕ) (v : Data) → Reads p S d t b v → HasType S t v
reads_type p S d t b null h = h.0
reads_type p S d t b (truth x) h = h.0
reads_type p S d t b (number n) h = h.0
reads_type p S d t b (text x) h = h.0
reads_type p S zero t b (seq vs) h = elim h [ ]
reads_type p S zero t b (rec vs) h = elim h [ ]
reads_type p S zero t b (alt k v) h = elim h [ ]
reads_type p S (suc d) t b (seq vs) h = h.0
reads_type p S (suc d) t b (rec vs) h = h.0
reads_type p S (suc d) t b (alt k v) h = h.0

-- A reading, by what its parts' readings are; `left` says that a level is left.
abbrev LevelReads : Profile → List Decl → Bool → Readings → AidlType → List ℕ → Data → Type 0
LevelReads p S left PartReads t b null = HasType S t null × (b ≡ spell S t null)
LevelReads p S left PartReads t b (truth x) = HasType S t (truth x) × IsWord (λ w. is_truth_word p w) truth_of b x
LevelReads p S left PartReads t b (number n) = HasType S t (number n) × NumberReads p (form_of S t.base) b n
LevelReads p S left PartReads t b (text x) = HasType S t (text x) × (length (units x) < 2 ^ 31) × (rest : List ℕ) × (b ≡ word (pos (length (units x))) ++ rest) × IsTextBlock p x rest
LevelReads p S left PartReads t b (seq vs) = (left ≡ true) × HasType S t (seq vs) × (count vs < 2 ^ 31) × (rest : List ℕ) × (b ≡ word (pos (count vs)) ++ rest)
    × MatchBool (is_raw S t) (IsPadded p (raw_bytes vs) rest) (EachReads (PartReads (elem S t)) rest vs)
LevelReads p S left PartReads t b (rec vs) = (left ≡ true) × HasType S t (rec vs) × (fs : List Field) × (form_of S t.base ≡ form.parcelable fs) × (marker rest : List ℕ) × (b ≡ marker ++ rest) × IsMarker p marker × BodyReads S PartReads fs rest vs
LevelReads p S left PartReads t b (alt k v) = (left ≡ true) × HasType S t (alt k v) × (fs : List Field) × (form_of S t.base ≡ form.union fs) × (f : Field) × (slice_get fs k ≡ Some f)
    × (marker rest : List ℕ) × (b ≡ marker ++ (word (pos k) ++ rest)) × IsMarker p marker × PartReads f.ty rest v

no_level : (p : Profile) (S : List Decl) (PartReads : Readings) (t : AidlType) (b : List ℕ) (v : Data) → LevelReads p S false PartReads t b v → Reads p S zero t b v
no_level p S PartReads t b null h = h
no_level p S PartReads t b (truth x) h = h
no_level p S PartReads t b (number n) h = h
no_level p S PartReads t b (text x) h = h
no_level p S PartReads t b (seq vs) h = absurd (true≢false (sym h.0))
no_level p S PartReads t b (rec vs) h = absurd (true≢false (sym h.0))
no_level p S PartReads t b (alt k v) h = absurd (true≢false (sym h.0))

one_level : (p : Profile) (S : List Decl) (d : ℕ) (t : AidlType) (b : List ℕ) (v : Data) → LevelReads p S true (λ u front v. Reads p S d u front v) t b v → Reads p S (suc d) t b v
one_level p S d t b null h = h
one_level p S d t b (truth x) h = h
one_level p S d t b (number n) h = h
one_level p S d t b (text x) h = h
one_level p S d t b (seq vs) h = (h.1, h.2, h.3, h.4, h.5)
one_level p S d t b (rec vs) h = (h.1, h.2, h.3, h.4, h.5, h.6, h.7, h.8)
one_level p S d t b (alt k v) h = (h.1, h.2, h.3, h.4, h.5, h.6, h.7, h.8, h.9, h.10)

module _ (p : Profile) (S : List Decl) (left : Bool) (PartReads : Readings) (t : AidlType) where
  of_text : is_one t.shape ≡ true → form_of S t.base ≡ form.text → (b : List ℕ) (v : Data) → TextReads p t.nullable b v → LevelReads p S left PartReads t b v
  of_text one is b null h = (h.0, h.1 ∙ sym (rw (one, is) refl))
  of_text one is b (text x) h = ((one, is, h.0), h.1, h.2, h.3, h.4)
  of_text one is b (truth x) h = elim h [ ]
  of_text one is b (number n) h = elim h [ ]
  of_text one is b (seq vs) h = elim h [ ]
  of_text one is b (rec vs) h = elim h [ ]
  of_text one is b (alt k v) h = elim h [ ]

  of_record : (fs : List Field) → is_one t.shape ≡ true → form_of S t.base ≡ form.parcelable fs → (b : List ℕ) (v : Data)
      → RecordReads p left S PartReads t.nullable fs b v → LevelReads p S left PartReads t b v
  of_record fs one is b null h = (h.0, h.1 ∙ sym (rw (one, is) refl))
  of_record fs one is b (rec vs) h = (h.0, (one, fs, is, h.6), fs, is, h.1, h.2, h.3, h.4, h.5)
  of_record fs one is b (truth x) h = elim h [ ]
  of_record fs one is b (number n) h = elim h [ ]
  of_record fs one is b (text x) h = elim h [ ]
  of_record fs one is b (seq vs) h = elim h [ ]
  of_record fs one is b (alt k v) h = elim h [ ]

  of_union : (fs : List Field) → ((u : AidlType) (c : List ℕ) (v : Data) → PartReads u c v → HasType S u v) → is_one t.shape ≡ true
      → form_of S t.base ≡ form.union fs → (b : List ℕ) (v : Data) → UnionReads p left PartReads t.nullable fs b v → LevelReads p S left PartReads t b v
  of_union fs typed one is b null h = (h.0, h.1 ∙ sym (rw (one, is) refl))
  of_union fs typed one is b (alt k v) h = (h.0, (one, fs, is, h.1, h.2, typed h.1.ty h.4 v h.7), fs, is, h.1, h.2, h.3, h.4, h.5, h.6, h.7)
  of_union fs typed one is b (truth x) h = elim h [ ]
  of_union fs typed one is b (number n) h = elim h [ ]
  of_union fs typed one is b (text x) h = elim h [ ]
  of_union fs typed one is b (seq vs) h = elim h [ ]
  of_union fs typed one is b (rec vs) h = elim h [ ]

  of_sequence : is_one t.shape ≡ false → (b : List ℕ) (v : Data) → SequenceReads p left S t (PartReads (elem S t)) b v → LevelReads p S left PartReads t b v
  of_sequence many b null h = (h.0, h.1 ∙ sym (rw many refl))
  of_sequence many b (seq vs) h = (h.0, (many, h.2), h.1, h.3, h.4, h.5)
  of_sequence many b (truth x) h = elim h [ ]
  of_sequence many b (number n) h = elim h [ ]
  of_sequence many b (text x) h = elim h [ ]
  of_sequence many b (rec vs) h = elim h [ ]
  of_sequence many b (alt k v) h = elim h [ ]

module _ (p : Profile) (S : List Decl) (sound : IsWhole S) (left : Bool) (PartReads : Readings) (PartStops : Stoppings) (read : AidlType → Bool → List ℕ → Read Data)
    (typed : (t : AidlType) (c : List ℕ) (v : Data) → PartReads t c v → HasType S t v)
    (law : left ≡ true → (t : AidlType) (j : Bool) (c : List ℕ) → is_type S t ≡ true → AreBytes c → Told (PartReads t) (λ s. PartStops t c j s) c (read t j c))
    (t : AidlType) (inside : Bool) (b : List ℕ) (bytes : AreBytes b) (type : is_type S t ≡ true) where
  -- a value of shape one, by what the type means
  one_told : (f : Form) → is_one t.shape ≡ true → form_of S t.base ≡ f
      → Told (λ c v. LevelReads p S left PartReads t c v) (λ s. OneStop p left PartReads PartStops t.nullable f b inside s) b (one_at p left (λ f. initial_in S f) read t.nullable f inside b)
  one_told form.truth one is =
      told_value (λ c x. IsWord (λ w. is_truth_word p w) truth_of c x) (λ c v. LevelReads p S left PartReads t c v) (λ s. WordStop (λ w. is_truth_word p w) b inside s) b truth (truth_at p inside b)
      (λ c x h. ((one, is), h)) (word_as_told (λ w. is_truth_word p w) truth_of inside b)
  one_told form.byte one is =
      told_value (λ c n. IsWord (λ w. is_byte_word p w) byte_of c n) (λ c v. LevelReads p S left PartReads t c v) (λ s. WordStop (λ w. is_byte_word p w) b inside s) b number (byte_at p inside b)
      (λ c n h. rw is ((one, is_byte (word_of c) n h.2), h)) (word_as_told (λ w. is_byte_word p w) byte_of inside b)
  one_told form.char one is =
      told_value (λ c n. IsWord (λ w. is_char_word p w) char_of c n) (λ c v. LevelReads p S left PartReads t c v) (λ s. WordStop (λ w. is_char_word p w) b inside s) b char_data (char_at p inside b)
      (λ c n h. rw is ((one, is_char (word_of c) n h.2), (h.0, h.1, ap pos h.2))) (word_as_told (λ w. is_char_word p w) char_of inside b)
  one_told form.int one is =
      told_value (λ c n. (c ≡ word n) × FitsSigned w32 n) (λ c v. LevelReads p S left PartReads t c v) (λ s. WordStop (λ w. true) b inside s) b number (word_at inside b)
      (λ c n h. rw is ((one, fits_int n h.1), h.0)) (word_told inside b bytes (nat_lt (length b) 4) refl)
  one_told form.long one is =
      told_value (λ c n. (c ≡ long_word n) × FitsSigned w64 n) (λ c v. LevelReads p S left PartReads t c v) (λ s. LongStop b inside s) b number (long_at inside b)
      (λ c n h. rw is ((one, fits_long n h.1), h.0)) (long_told inside b bytes (nat_lt (length b) 8) refl)
  one_told form.text one is =
      told_as (λ c v. TextReads p t.nullable c v) (λ c v. LevelReads p S left PartReads t c v) (λ s. TextStop p t.nullable b inside s) b (read_as text_data (text_at p t.nullable inside b)) (λ c v h. of_text p S left PartReads t one is c v h) (text_told p t.nullable inside b bytes)
  one_told (form.parcelable fs) one is =
      let fields = sound.fields t.base fs is in
      told_as (λ c v. RecordReads p left S PartReads t.nullable fs c v) (λ c v. LevelReads p S left PartReads t c v) (λ s. RecordStop p left t.nullable fs PartReads PartStops b inside s) b (record_at p left t.nullable (λ f. initial_in S f) (λ f c. read f.ty true c) fs inside b)
      (λ c v h. of_record p S left PartReads t fs one is c v h) (record_told p left S PartReads PartStops read typed law t.nullable inside fs fields.0 b bytes fields.1)
  one_told (form.union fs) one is =
      told_as (λ c v. UnionReads p left PartReads t.nullable fs c v) (λ c v. LevelReads p S left PartReads t c v) (λ s. UnionStop p left t.nullable fs PartStops b inside s) b (union_at p left t.nullable (λ f c. read f.ty inside c) fs inside b)
      (λ c v h. of_union p S left PartReads t fs typed one is c v h) (union_told p left S PartReads PartStops read law t.nullable inside fs (sound.tags t.base fs is).0 b bytes)
  one_told form.nothing one is =
      let meant : is_meant (form_of S t.base) ≡ true = (both (is_meant (form_of S t.base)) (is_well_shaped t.shape t.nullable (form_of S t.base)) type).0 in
      absurd (true≢false (sym meant ∙ ap is_meant is))

  many_told : is_one t.shape ≡ false
      → Told (λ c v. LevelReads p S left PartReads t c v) (λ s. SequenceStop p left (is_raw S t) t.nullable (PartReads (elem S t)) (λ rest s. PartStops (elem S t) rest inside s) b inside s) b (array_at p left (is_raw S t) t.nullable (λ c. read (elem S t) inside c) inside b)
  many_told many =
      told_as (λ c v. SequenceReads p left S t (PartReads (elem S t)) c v) (λ c v. LevelReads p S left PartReads t c v) (λ s. SequenceStop p left (is_raw S t) t.nullable (PartReads (elem S t)) (λ rest s. PartStops (elem S t) rest inside s) b inside s) b
      (array_at p left (is_raw S t) t.nullable (λ c. read (elem S t) inside c) inside b) (λ c v h. of_sequence p S left PartReads t many c v h)
      (sequence_told p left S t (PartReads (elem S t)) (λ rest s. PartStops (elem S t) rest inside s) (λ c. read (elem S t) inside c) (λ c v h. typed (elem S t) c v h) (λ has c q. law has (elem S t) inside c (elem_is_type S t type) q) inside b bytes)

  level_told : (single : Bool) → is_one t.shape ≡ single
      → Told (λ c v. LevelReads p S left PartReads t c v) (λ s. StopBy p S left PartReads PartStops t b inside s) b (read_by p S left read t inside b)
  level_told true is = rw is (one_told (form_of S t.base) is refl)
  level_told false is = rw is (many_told is)

-- what reading answers is a reading of a front, or the stop
pub told : (p : Profile) (S : List Decl) → IsWhole S → (d : ℕ) (t : AidlType) (inside : Bool) (b : List ℕ) → is_type S t ≡ true → AreBytes b
    → Told (λ front v. Reads p S d t front v) (λ s. Stop p S d t b inside s) b (read_of p S d t inside b)
unfolding Stop read_of
told p S sound zero t inside b type bytes =
    told_as (λ c v. LevelReads p S false (λ u front v. ⊥) t c v) (λ front v. Reads p S zero t front v) (λ s. Stop p S zero t b inside s) b (read_of p S zero t inside b) (λ c v h. no_level p S (λ u front v. ⊥) t c v h)
    (level_told p S sound false (λ u front v. ⊥) (λ u rest j s. ⊥) (λ u j c. Err bad_value) (λ u c v h. elim h [ ]) (λ has u j c type bytes. absurd (true≢false (sym has))) t inside b bytes type (is_one t.shape) refl)
told p S sound (suc d) t inside b type bytes =
    told_as (λ c v. LevelReads p S true (λ u front v. Reads p S d u front v) t c v) (λ front v. Reads p S (suc d) t front v) (λ s. Stop p S (suc d) t b inside s) b (read_of p S (suc d) t inside b) (λ c v h. one_level p S d t c v h)
    (level_told p S sound true (λ u front v. Reads p S d u front v) (λ u rest j s. Stop p S d u rest j s) (λ u j c. read_of p S d u j c) (λ u c v h. reads_type p S d u c v h) (λ has u j c type bytes. told p S sound d u j c type bytes) t inside b bytes type (is_one t.shape) refl)
