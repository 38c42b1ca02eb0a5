-- Reading as a plain function: the value and the bytes after it, or the status of the first wrong item (own).
-- It is proved to be what Reads and Stop say. p is the profile, S the schema's declarations, d the composite levels
-- left, t the type, b the bytes up to the limit; `inside` says that a record is being read.
use Rattle.std.specs.Prelude.{ℕ, zero, suc, ◌-◌, ℤ, pos, negsuc, Bool, true, false, List, [], ◌∷◌, map, Option}
use Rattle.std.specs.Prelude.{Some, None, slice_get, Result, Ok, Err, if◌then◌else◌}
use Rattle.std.specs.Int.{w8, cast_signed}
use Rattle.aidl_base.specs.declared.profile.Profile.{Profile}
pub use Rattle.aidl_base.specs.Readings.{Read, ◌>>=◌, bytes_at, word_at, long_at, truth_at, byte_at, char_at, size_of}
unfoldable pub use Rattle.aidl_base.specs.Readings.{word_as, count_at, text_at, raw_at}
use Rattle.aidl_schema.specs.declared.schema.Decl.{Decl}
use Rattle.aidl_schema.specs.declared.schema.Field.{Field}
use Rattle.aidl_schema.specs.declared.schema.AidlType.{AidlType}
use Rattle.aidl_schema.specs.Types.{Form, form_of, is_one, is_raw, elem}
use Rattle.aidl_schema.specs.Types as form
use Rattle.aidl_values.specs.Data.{Data, null, truth, number, text, seq, rec, alt, Items, none, item}
use Rattle.aidl_values.specs.View.{items_of}
use Rattle.aidl_values.specs.Sound.{initial_in}
use Rattle.wire_model.specs.Status.{bad_value, unexpected_null}

-- what one item says, as a value
abbrev pub read_as : {A : Type 0} → (A → Data) → Read A → Read Data
read_as seen x = x >>= λ y. Ok (seen y.0, y.1)

-- a char is the number of its code unit
abbrev pub char_data : ℕ → Data
char_data n = number (pos n)

-- a String, where none is null
abbrev pub text_data : Option (List ℕ) → Data
text_data None = null
text_data (Some x) = text x

-- n items in order
abbrev pub each_at : (List ℕ → Read Data) → ℕ → List ℕ → Read Items
each_at read zero b = Ok (none, b)
each_at read (suc n) b = do
  first ← read b
  others ← each_at read n first.1
  Ok (item first.0 others.0, others.1)

-- raw bytes as numbers
abbrev pub raw_items : List ℕ → Items
raw_items xs = items_of (map (λ x. number (cast_signed w8 x)) xs)

-- n raw bytes with their padding (`readByteVector`)
unfoldable pub raw_items_at : Profile → ℕ → Bool → List ℕ → Read Items
raw_items_at p n inside b = do
  x ← raw_at p n inside b
  Ok (raw_items x.0, x.1)

-- a sequence after its count; `left` says that a level is left, `read` reads one element
unfoldable pub elements_at : Profile → Bool → Bool → (List ℕ → Read Data) → Bool → Option ℕ → List ℕ → Read Data
elements_at p left raw read inside None b = Ok (null, b)
elements_at p left raw read inside (Some n) b = if left then (do
  vs ← (if raw then raw_items_at p n inside b else each_at read n b)
  Ok (seq vs.0, vs.1)) else Err bad_value

-- an array or a List
unfoldable pub array_at : Profile → Bool → Bool → Bool → (List ℕ → Read Data) → Bool → List ℕ → Read Data
array_at p left raw nullable read inside b = do
  n ← count_at nullable inside b
  elements_at p left raw read inside n.0 n.1

-- whether something follows, by what a marker says
abbrev pub there_of : Bool → Bool → Result Bool ℤ
there_of nullable true = Ok true
there_of nullable false = if nullable then Ok false else Err unexpected_null

-- the marker of a parcelable or union, a boolean word (`readParcelable`)
unfoldable pub marker_at : Profile → Bool → Bool → List ℕ → Read Bool
marker_at p nullable inside b = do
  t ← truth_at p inside b
  m ← there_of nullable t.0
  Ok (m, t.1)

-- null, or what is there where a level is left
abbrev pub marked_at : Bool → (List ℕ → Read Data) → Bool → List ℕ → Read Data
marked_at left read there b = if there then (if left then read b else Err bad_value) else Ok (null, b)

-- a size word, and the record's bytes after it
unfoldable pub body_at : Bool → List ℕ → Read (List ℕ)
body_at inside b = do
  w ← word_at inside b
  z ← size_of w.0
  bytes_at (z - 4) inside w.1

-- a field of a record of which the bytes b are left: its default where none are; `initial` gives a field's default,
-- `read` reads a field
abbrev pub field_at : {F : Type 0} → (F → Data) → (F → List ℕ → Read Data) → F → List ℕ → Read Data
field_at initial read f [] = Ok (initial f, [])
field_at initial read f (x ∷ b) = read f (x ∷ b)

-- the fields of a record whose bytes are b; bytes after the last are passed over
abbrev pub fields_at : {F : Type 0} → (F → Data) → (F → List ℕ → Read Data) → List F → List ℕ → Result Items ℤ
fields_at initial read [] b = Ok none
fields_at initial read (f ∷ fs) b = do
  first ← field_at initial read f b
  others ← fields_at initial read fs first.1
  Ok (item first.0 others)

-- a parcelable that is there
unfoldable pub body_value_at : {F : Type 0} → (F → Data) → (F → List ℕ → Read Data) → List F → Bool → List ℕ → Read Data
body_value_at initial read fs inside b = do
  inner ← body_at inside b
  vs ← fields_at initial read fs inner.0
  Ok (rec vs, inner.1)

-- a parcelable
unfoldable pub record_at : {F : Type 0} → Profile → Bool → Bool → (F → Data) → (F → List ℕ → Read Data) → List F
    → Bool → List ℕ → Read Data
record_at p left nullable initial read fs inside b = do
  m ← marker_at p nullable inside b
  marked_at left (λ c. body_value_at initial read fs inside c) m.0 m.1

-- the tag that a word says: no number below 0
abbrev pub tag_of : ℤ → Result ℕ ℤ
tag_of (pos k) = Ok k
tag_of (negsuc k) = Err bad_value

unfoldable pub tag_at : Bool → List ℕ → Read ℕ
tag_at inside b = do
  w ← word_at inside b
  k ← tag_of w.0
  Ok (k, w.1)

abbrev pub ok_field : {F : Type 0} → Option F → Result F ℤ
ok_field None = Err bad_value
ok_field (Some f) = Ok f

-- a union that is there
unfoldable pub tagged_at : {F : Type 0} → (F → List ℕ → Read Data) → List F → Bool → List ℕ → Read Data
tagged_at read fs inside b = do
  k ← tag_at inside b
  f ← ok_field (slice_get fs k.0)
  v ← read f k.1
  Ok (alt k.0 v.0, v.1)

-- a union
unfoldable pub union_at : {F : Type 0} → Profile → Bool → Bool → (F → List ℕ → Read Data) → List F → Bool
    → List ℕ → Read Data
union_at p left nullable read fs inside b = do
  m ← marker_at p nullable inside b
  marked_at left (λ c. tagged_at read fs inside c) m.0 m.1

-- one value that is no sequence, by what its type means
-- (`readBool`, `readByte`, `readChar`, `readInt32`, `readInt64`, `readString16`)
abbrev pub one_at : Profile → Bool → (Field → Data) → (AidlType → Bool → List ℕ → Read Data) → Bool → Form → Bool
    → List ℕ → Read Data
one_at p left initial read nullable form.truth inside b = read_as truth (truth_at p inside b)
one_at p left initial read nullable form.byte inside b = read_as number (byte_at p inside b)
one_at p left initial read nullable form.char inside b = read_as char_data (char_at p inside b)
one_at p left initial read nullable form.int inside b = read_as number (word_at inside b)
one_at p left initial read nullable form.long inside b = read_as number (long_at inside b)
one_at p left initial read nullable form.text inside b = read_as text_data (text_at p nullable inside b)
one_at p left initial read nullable (form.parcelable fs) inside b =
    record_at p left nullable initial (λ f b. read f.ty true b) fs inside b
one_at p left initial read nullable (form.union fs) inside b =
    union_at p left nullable (λ f b. read f.ty inside b) fs inside b
one_at p left initial read nullable form.nothing inside b = Err bad_value

-- one level; `read` reads its parts
abbrev pub read_by : Profile → List Decl → Bool → (AidlType → Bool → List ℕ → Read Data) → AidlType → Bool
    → List ℕ → Read Data
read_by p S left read t inside b = if is_one t.shape
    then one_at p left (λ f. initial_in S f) read t.nullable (form_of S t.base) inside b
    else array_at p left (is_raw S t) t.nullable (λ b. read (elem S t) inside b) inside b

-- The value at the front and the bytes after it, or the status of the first wrong item.
unfoldable pub read_of : Profile → List Decl → ℕ → AidlType → Bool → List ℕ → Read Data
read_of p S zero t inside b = read_by p S false (λ u j b. Err bad_value) t inside b
read_of p S (suc d) t inside b = read_by p S true (λ u j b. read_of p S d u j b) t inside b
