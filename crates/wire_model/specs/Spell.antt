-- The bytes that spell a value. S is the schema's declarations, t the type. Words, `pad` and `block` are aidl_base's.
use Rattle.std.specs.Prelude.{ℕ, ◌+◌, ℤ, pos, if◌then◌else◌, List, [], ◌∷◌, ◌++◌, length, slice_get}
use Rattle.std.specs.Int.{w8, cast_unsigned}
use Rattle.aidl_base.specs.Words.{word, long_word, pad}
pub use Rattle.aidl_base.specs.Spellings.{spell_truth, spell_text}
use Rattle.aidl_schema.specs.declared.schema.Decl.{Decl}
use Rattle.aidl_schema.specs.declared.schema.Field.{Field}
use Rattle.aidl_schema.specs.declared.schema.AidlType.{AidlType}
use Rattle.aidl_schema.specs.Types.{Form, form_of, is_one, is_raw, elem, type_of_field}
use Rattle.aidl_schema.specs.Types as form
use Rattle.aidl_values.specs.Data.{Data, null, truth, number, text, seq, rec, alt, Items, none, item, count}
use Rattle.wire_model.specs.Status.{minus}

-- byte, char, int and an enum of byte or int (`writeByte`, `writeChar`, `writeInt32`): a word;
-- long and an enum of long (`writeInt64`): eight bytes, which need no alignment to 8
abbrev pub spell_number : Form → ℤ → List ℕ
spell_number form.long n = long_word n
spell_number _ n = word n

-- null: of a String or a sequence the count -1 (`writeString16`, `writeByteVector`),
-- of a parcelable or union the marker 0 (Parcel.h: `writeNullableParcelable`)
abbrev pub null_word : Form → ℤ
null_word (form.parcelable fs) = pos 0
null_word (form.union fs) = pos 0
null_word _ = minus 1

abbrev pub spell_null : List Decl → AidlType → List ℕ
spell_null S t = word (if is_one t.shape then null_word (form_of S t.base) else minus 1)

-- an array of byte or of an enum of byte (`writeByteVector`): each element is one raw byte
abbrev pub raw_byte : Data → ℕ
raw_byte (number n) = cast_unsigned w8 n
raw_byte _ = 0

abbrev pub raw_bytes : Items → List ℕ
raw_bytes none = []
raw_bytes (item v vs) = raw_byte v ∷ raw_bytes vs

-- a record's body (own, after the compiler's `writeToParcel`): its size, the size word counted, and then the fields
abbrev pub body : List ℕ → List ℕ
body fields = word (pos (4 + length fields)) ++ fields

-- of what is no parcelable no field, of what is no union likewise
abbrev pub parcelable_fields : Form → List Field
parcelable_fields (form.parcelable fs) = fs
parcelable_fields _ = []

abbrev pub union_fields : Form → List Field
union_fields (form.union fs) = fs
union_fields _ = []

abbrev mutual
  -- what is there of a parcelable or union begins with the marker 1 (`writeParcelable`); a union has its tag and no
  -- size (own)
  pub spell : List Decl → AidlType → Data → List ℕ
  spell S t (truth b) = spell_truth b
  spell S t (number n) = spell_number (form_of S t.base) n
  spell S t (text x) = spell_text x
  spell S t null = spell_null S t
  spell S t (seq vs) = word (pos (count vs)) ++ (if is_raw S t then pad (raw_bytes vs) else spell_items S (elem S t) vs)
  spell S t (rec vs) = word (pos 1) ++ body (spell_fields S (parcelable_fields (form_of S t.base)) vs)
  spell S t (alt k v) = word (pos 1) ++ word (pos k)
      ++ spell S (type_of_field (slice_get (union_fields (form_of S t.base)) k)) v

  -- the elements of a sequence, in order (Parcel.h: `unsafeWriteTypedVector`)
  pub spell_items : List Decl → AidlType → Items → List ℕ
  spell_items S t none = []
  spell_items S t (item v vs) = spell S t v ++ spell_items S t vs

  -- the fields of a record, in order
  pub spell_fields : List Decl → List Field → Items → List ℕ
  spell_fields S [] none = []
  spell_fields S [] (item v vs) = []
  spell_fields S (f ∷ fs) none = []
  spell_fields S (f ∷ fs) (item v vs) = spell S f.ty v ++ spell_fields S fs vs
