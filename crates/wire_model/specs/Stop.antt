-- Which bytes begin no reading, and the status of the first wrong item (own). One constructor is one way to stop.
-- p is the profile, S the schema's declarations, d the composite levels left, t the type, b the bytes up to the
-- limit, s the status; `inside` says that a record is being read. What is said of a part is an argument:
-- `PartReads` says of which bytes it is read, `PartStops` where it stops.
use Rattle.std.specs.Prelude.{◌≡◌, ◌≢◌, ℕ, zero, suc, ◌+◌, ◌-◌, ◌%◌, ◌<◌, ◌≤◌, ℤ, pos, negsuc, Bool, true, false}
use Rattle.std.specs.Prelude.{List, [], ◌∷◌, ◌++◌, length, take, drop, Some, slice_get, IsTrue, MatchBool}
use Rattle.std.specs.Str.{all_scalars}
use Rattle.aidl_base.specs.declared.profile.Profile.{Profile}
use Rattle.aidl_base.specs.Profiles.{is_truth_word, is_byte_word, is_char_word, IsPadded, IsTextBlock}
use Rattle.aidl_base.specs.Words.{word_of, padding, units}
pub use Rattle.aidl_base.specs.Readings.{block_len}
use Rattle.aidl_schema.specs.declared.schema.Decl.{Decl}
use Rattle.aidl_schema.specs.declared.schema.Field.{Field}
use Rattle.aidl_schema.specs.declared.schema.AidlType.{AidlType}
use Rattle.aidl_schema.specs.Types.{Form, form_of, is_one, is_raw, elem}
use Rattle.aidl_schema.specs.Types as form
use Rattle.aidl_values.specs.Data.{Data, Items, none, item, count}
use Rattle.wire_model.specs.Status.{bad_value, unexpected_null, past}
use Rattle.wire_model.specs.Reads.{Readings, EachReads, IsMarker, Reads}

-- where values of each type stop, and with which status
abbrev pub Stoppings : Type 1
Stoppings = AidlType → List ℕ → Bool → ℤ → Type 0

-- the first word (Parcel.cpp: `readInt32`), and what is left after it
abbrev pub first_word : List ℕ → ℤ
first_word b = word_of (take 4 b)

abbrev pub after_word : List ℕ → List ℕ
after_word b = drop 4 b

-- the first word is there, and is n
abbrev pub Begins : ℤ → List ℕ → Type 0
Begins n b = (4 ≤ length b) × (first_word b ≡ n)

-- a boolean, byte, char, int or enum (`readBool`, `readByte`, `readChar`, `readInt32`): no word, or one that the
-- test `may` refuses
pub data WordStop (may : ℤ → Bool) (b : List ℕ) (inside : Bool) : ℤ → Type 0 where
  short : length b < 4 → WordStop may b inside (past inside)
  not_permitted : 4 ≤ length b → may (first_word b) ≡ false → WordStop may b inside bad_value

-- a long or an enum of long (`readInt64`)
pub data LongStop (b : List ℕ) (inside : Bool) : ℤ → Type 0 where
  short : length b < 8 → LongStop b inside (past inside)

-- the count of a String or of a sequence
pub data CountStop (nullable : Bool) (b : List ℕ) (inside : Bool) : ℤ → Type 0 where
  short : length b < 4 → CountStop nullable b inside (past inside)
  null_count : Begins (negsuc 0) b → nullable ≡ false → CountStop nullable b inside unexpected_null
  negative : (n : ℕ) → Begins (negsuc (suc n)) b → CountStop nullable b inside bad_value

-- an item of n bytes: beyond the limit, or inside it and not of the form that is asked
pub data BlockStop (n : ℕ) (HasForm : List ℕ → Type 0) (b : List ℕ) (inside : Bool) : ℤ → Type 0 where
  long_block : length b < n → BlockStop n HasForm b inside (past inside)
  wrong_block : n ≤ length b → (HasForm (take n b) → ⊥) → BlockStop n HasForm b inside bad_value

-- the block of some text of n units
abbrev pub IsBlock : Profile → ℕ → List ℕ → Type 0
IsBlock p n b = (x : List ℕ) × IsTrue (all_scalars x) × (length (units x) ≡ n) × IsTextBlock p x b

-- a String (`readString16`): its count, or its block
pub data TextStop (p : Profile) (nullable : Bool) (b : List ℕ) (inside : Bool) (s : ℤ) : Type 0 where
  at_count : CountStop nullable b inside s → TextStop p nullable b inside s
  at_block : (n : ℕ) → Begins (pos n) b → BlockStop (block_len n) (λ c. IsBlock p n c) (after_word b) inside s
      → TextStop p nullable b inside s

-- n elements: fewer are read, and the next one stops on what is left
pub data ElementsStop (PartReads : List ℕ → Data → Type 0) (PartStops : List ℕ → ℤ
    → Type 0) (n : ℕ) (b : List ℕ) (s : ℤ) : Type 0 where
  at_element : (vs : Items) → count vs < n → (front rest : List ℕ) → b ≡ front ++ rest
      → EachReads PartReads front vs → PartStops rest s
      → ElementsStop PartReads PartStops n b s

-- an array or a List: its count, its raw bytes (`readByteVector`), or an element; `left` says that a level is left
pub data SequenceStop (p : Profile) (left raw nullable : Bool) (PartReads : List ℕ → Data
    → Type 0) (PartStops : List ℕ → ℤ → Type 0)
    (b : List ℕ) (inside : Bool) (s : ℤ) : Type 0 where
  at_count : CountStop nullable b inside s → SequenceStop p left raw nullable PartReads PartStops b inside s
  too_deep : (n : ℕ) → Begins (pos n) b → left ≡ false → s ≡ bad_value
      → SequenceStop p left raw nullable PartReads PartStops b inside s
  at_bytes : (n : ℕ) → Begins (pos n) b → left ≡ true → raw ≡ true
      → BlockStop (n + padding n) (λ c. IsPadded p (take n c) c) (after_word b) inside s
      → SequenceStop p left raw nullable PartReads PartStops b inside s
  at_elements : (n : ℕ) → Begins (pos n) b → left ≡ true → raw ≡ false
      → ElementsStop PartReads PartStops n (after_word b) s
      → SequenceStop p left raw nullable PartReads PartStops b inside s

-- the marker of a parcelable or union (`readParcelable`): no boolean word, or null where that may not be
pub data MarkerStop (p : Profile) (nullable : Bool) (b : List ℕ) (inside : Bool) (s : ℤ) : Type 0 where
  at_word : WordStop (λ w. is_truth_word p w) b inside s → MarkerStop p nullable b inside s
  null_marker : Begins (pos 0) b → nullable ≡ false → s ≡ unexpected_null → MarkerStop p nullable b inside s

-- a size word: at least 4, for itself, and a multiple of 4
abbrev pub HasSize : ℕ → List ℕ → Type 0
HasSize z b = Begins (pos z) b × (4 ≤ z) × (z % 4 ≡ 0)

-- the size of a record whose bytes begin with it: none, or one that passes the limit
pub data SizeStop (b : List ℕ) (inside : Bool) : ℤ → Type 0 where
  short : length b < 4 → SizeStop b inside (past inside)
  no_size : 4 ≤ length b → ((z : ℕ) → HasSize z b → ⊥) → SizeStop b inside bad_value
  long_record : (z : ℕ) → HasSize z b → length b < z → SizeStop b inside (past inside)

-- the bytes of a record of size z after its size word
abbrev pub fields_bytes : ℕ → List ℕ → List ℕ
fields_bytes z b = take (z - 4) (after_word b)

-- readings of these fields, each of them there
abbrev pub FieldsThere : Readings → List Field → List ℕ → Items → Type 0
FieldsThere PartReads [] b none = b ≡ []
FieldsThere PartReads [] b (item v vs) = ⊥
FieldsThere PartReads (f ∷ fs) b none = ⊥
FieldsThere PartReads (f ∷ fs) b (item v vs) = (front rest : List ℕ) × (b ≡ front ++ rest) × PartReads f.ty front v
    × FieldsThere PartReads fs rest vs

-- the fields of a record whose bytes are b: the first i are read, something is left, and the next one stops on it
pub data FieldsStop (fs : List Field) (PartReads : Readings) (PartStops : Stoppings) (b : List ℕ) (s : ℤ) : Type 0 where
  at_field : (i : ℕ) → (f : Field) → slice_get fs i ≡ Some f → (vs : Items) → (front rest : List ℕ) → b ≡ front ++ rest
      → FieldsThere PartReads (take i fs) front vs → rest ≢ [] → PartStops f.ty rest true s
      → FieldsStop fs PartReads PartStops b s

-- a parcelable: its marker, its size, or a field
pub data RecordStop (p : Profile) (left nullable : Bool) (fs : List Field) (PartReads : Readings)
    (PartStops : Stoppings)
    (b : List ℕ) (inside : Bool) (s : ℤ) : Type 0 where
  at_marker : MarkerStop p nullable b inside s → RecordStop p left nullable fs PartReads PartStops b inside s
  too_deep : IsMarker p (take 4 b) → left ≡ false → s ≡ bad_value
      → RecordStop p left nullable fs PartReads PartStops b inside s
  at_size : IsMarker p (take 4 b) → left ≡ true → SizeStop (after_word b) inside s
      → RecordStop p left nullable fs PartReads PartStops b inside s
  at_fields : IsMarker p (take 4 b) → left ≡ true → (z : ℕ) → HasSize z (after_word b) → z ≤ length (after_word b)
      → FieldsStop fs PartReads PartStops (fields_bytes z (after_word b)) s
      → RecordStop p left nullable fs PartReads PartStops b inside s

-- the tag of a union: none, or no position of a field
pub data TagStop (fs : List Field) (b : List ℕ) (inside : Bool) : ℤ → Type 0 where
  short : length b < 4 → TagStop fs b inside (past inside)
  no_tag : 4 ≤ length b → ((k : ℕ) → first_word b ≡ pos k → length fs ≤ k) → TagStop fs b inside bad_value

-- a union: its marker, its tag, or its field
pub data UnionStop (p : Profile) (left nullable : Bool) (fs : List Field) (PartStops : Stoppings) (b : List ℕ)
    (inside : Bool) (s : ℤ) : Type 0 where
  at_marker : MarkerStop p nullable b inside s → UnionStop p left nullable fs PartStops b inside s
  too_deep : IsMarker p (take 4 b) → left ≡ false → s ≡ bad_value → UnionStop p left nullable fs PartStops b inside s
  at_tag : IsMarker p (take 4 b) → left ≡ true → TagStop fs (after_word b) inside s
      → UnionStop p left nullable fs PartStops b inside s
  at_field : IsMarker p (take 4 b) → left ≡ true → (k : ℕ) → Begins (pos k) (after_word b) → (f : Field)
      → slice_get fs k ≡ Some f
      → PartStops f.ty (after_word (after_word b)) inside s
      → UnionStop p left nullable fs PartStops b inside s

-- one value that is no sequence, by what its type means
abbrev pub OneStop : Profile → Bool → Readings → Stoppings → Bool → Form → List ℕ → Bool → ℤ → Type 0
OneStop p left PartReads PartStops nullable form.truth b inside s = WordStop (λ w. is_truth_word p w) b inside s
OneStop p left PartReads PartStops nullable form.byte b inside s = WordStop (λ w. is_byte_word p w) b inside s
OneStop p left PartReads PartStops nullable form.char b inside s = WordStop (λ w. is_char_word p w) b inside s
OneStop p left PartReads PartStops nullable form.int b inside s = WordStop (λ w. true) b inside s
OneStop p left PartReads PartStops nullable form.long b inside s = LongStop b inside s
OneStop p left PartReads PartStops nullable form.text b inside s = TextStop p nullable b inside s
OneStop p left PartReads PartStops nullable (form.parcelable fs) b inside s =
    RecordStop p left nullable fs PartReads PartStops b inside s
OneStop p left PartReads PartStops nullable (form.union fs) b inside s =
    UnionStop p left nullable fs PartStops b inside s
OneStop p left PartReads PartStops nullable form.nothing b inside s = ⊥

-- one level
abbrev pub StopBy : Profile → List Decl → Bool → Readings → Stoppings → AidlType → List ℕ → Bool → ℤ → Type 0
StopBy p S left PartReads PartStops t b inside s = MatchBool (is_one t.shape)
    (OneStop p left PartReads PartStops t.nullable (form_of S t.base) b inside s)
    (SequenceStop p left (is_raw S t) t.nullable (PartReads (elem S t))
    (λ rest s. PartStops (elem S t) rest inside s) b inside s)

-- The bytes begin no reading, and s is the status of the first wrong item.
unfoldable pub Stop : Profile → List Decl → ℕ → AidlType → List ℕ → Bool → ℤ → Type 0
Stop p S zero t b inside s = StopBy p S false (λ u front v. ⊥) (λ u rest j s. ⊥) t b inside s
Stop p S (suc d) t b inside s =
    StopBy p S true (λ u front v. Reads p S d u front v) (λ u rest j s. Stop p S d u rest j s) t b inside s

-- the bytes begin no reading, whatever the status
abbrev pub Stops : Profile → List Decl → ℕ → AidlType → List ℕ → Bool → Type 0
Stops p S d t b inside = (s : ℤ) × Stop p S d t b inside s
