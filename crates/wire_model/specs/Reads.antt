-- Which bytes are a reading of which value (own).
-- p is the profile, S the schema's declarations, d the composite levels left, t the type.
use Rattle.std.specs.Prelude.{◌≡◌, ℕ, zero, suc, ◌+◌, ◌%◌, ◌^◌, ◌<◌, ℤ, pos, true, List, [], ◌∷◌, ◌++◌, length}
use Rattle.std.specs.Prelude.{Some, slice_get, ◌⊎◌, MatchBool}
use Rattle.aidl_base.specs.declared.profile.Profile.{Profile}
use Rattle.aidl_base.specs.Profiles.{is_truth_word, truth_of, is_byte_word, byte_of, is_char_word, char_of, IsWord}
use Rattle.aidl_base.specs.Profiles.{IsPadded, IsTextBlock}
use Rattle.aidl_base.specs.Words.{word, units}
use Rattle.aidl_schema.specs.declared.schema.Decl.{Decl}
use Rattle.aidl_schema.specs.declared.schema.Field.{Field}
use Rattle.aidl_schema.specs.declared.schema.AidlType.{AidlType}
use Rattle.aidl_schema.specs.Types.{Form, form_of, is_raw, elem}
use Rattle.aidl_schema.specs.Types as form
use Rattle.aidl_values.specs.Data.{Data, null, truth, number, text, seq, rec, alt, Items, none, item, count}
use Rattle.aidl_values.specs.HasType.{HasType}
use Rattle.aidl_values.specs.Default.{AreInitial}
use Rattle.wire_model.specs.Spell.{spell, spell_number, raw_bytes}

-- of which bytes values of each type are read
abbrev pub Readings : Type 1
Readings = AidlType → List ℕ → Data → Type 0

-- readings of the items, one after the other; `PartReads` says what one item's reading is
abbrev pub EachReads : (List ℕ → Data → Type 0) → List ℕ → Items → Type 0
EachReads PartReads b none = b ≡ []
EachReads PartReads b (item v vs) = (front rest : List ℕ) × (b ≡ front ++ rest) × PartReads front v
    × EachReads PartReads rest vs

-- readings of the first fields; then the end, where each later field has its default, or after the last field any rest
abbrev pub FieldsRead : List Decl → Readings → List Field → List ℕ → Items → Type 0
FieldsRead S PartReads [] b none = Unit {0}
FieldsRead S PartReads [] b (item v vs) = ⊥
FieldsRead S PartReads (f ∷ fs) b none = ⊥
FieldsRead S PartReads (f ∷ fs) b (item v vs) = ((b ≡ []) × AreInitial S (f ∷ fs) (item v vs))
    ⊎ ((front rest : List ℕ) × (b ≡ front ++ rest) × PartReads f.ty front v × FieldsRead S PartReads fs rest vs)

-- a record's body: a size, a multiple of 4 below 2 ^ 31, and as many bytes, the size word counted
abbrev pub BodyReads : List Decl → Readings → List Field → List ℕ → Items → Type 0
BodyReads S PartReads fs b vs = (inner : List ℕ) × (b ≡ word (pos (4 + length inner)) ++ inner)
    × (length inner % 4 ≡ 0) × (4 + length inner < 2 ^ 31) × FieldsRead S PartReads fs inner vs

-- a number of each type: a byte or a char is a word that means it, any other number is as it is written
abbrev pub NumberReads : Profile → Form → List ℕ → ℤ → Type 0
NumberReads p form.byte b n = IsWord (λ w. is_byte_word p w) byte_of b n
NumberReads p form.char b n = IsWord (λ w. is_char_word p w) (λ w. pos (char_of w)) b n
NumberReads p f b n = b ≡ spell_number f n

-- a marker that says that a parcelable or union is there
abbrev pub IsMarker : Profile → List ℕ → Type 0
IsMarker p b = IsWord (λ w. is_truth_word p w) truth_of b true

-- The bytes b are one reading of the value. What has parts needs a level, and its parts are read with one less.
abbrev pub Reads : Profile → List Decl → ℕ → AidlType → List ℕ → Data → Type 0
Reads p S d t b (truth x) = HasType S t (truth x) × IsWord (λ w. is_truth_word p w) truth_of b x
Reads p S d t b (number n) = HasType S t (number n) × NumberReads p (form_of S t.base) b n
Reads p S d t b (text x) = HasType S t (text x) × (length (units x) < 2 ^ 31) × (rest : List ℕ)
    × (b ≡ word (pos (length (units x))) ++ rest) × IsTextBlock p x rest
Reads p S d t b null = HasType S t null × (b ≡ spell S t null)
Reads p S zero t b (seq vs) = ⊥
Reads p S zero t b (rec vs) = ⊥
Reads p S zero t b (alt k v) = ⊥
Reads p S (suc d) t b (seq vs) = HasType S t (seq vs) × (count vs < 2 ^ 31) × (rest : List ℕ)
    × (b ≡ word (pos (count vs)) ++ rest)
    × MatchBool (is_raw S t) (IsPadded p (raw_bytes vs) rest)
    (EachReads (λ front v. Reads p S d (elem S t) front v) rest vs)
Reads p S (suc d) t b (rec vs) = HasType S t (rec vs) × (fs : List Field) × (form_of S t.base ≡ form.parcelable fs)
    × (marker rest : List ℕ) × (b ≡ marker ++ rest) × IsMarker p marker
    × BodyReads S (λ u front v. Reads p S d u front v) fs rest vs
Reads p S (suc d) t b (alt k v) = HasType S t (alt k v) × (fs : List Field) × (form_of S t.base ≡ form.union fs)
    × (f : Field) × (slice_get fs k ≡ Some f) × (marker rest : List ℕ)
    × (b ≡ marker ++ (word (pos k) ++ rest)) × IsMarker p marker
    × Reads p S d f.ty rest v

-- some front of the bytes is a reading of some value
abbrev pub FrontReads : Profile → List Decl → ℕ → AidlType → List ℕ → Type 0
FrontReads p S d t b = (v : Data) × (front rest : List ℕ) × (b ≡ front ++ rest) × Reads p S d t front v
