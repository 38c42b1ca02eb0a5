-- *Items of a reading*: what the bytes of a parcel are, part by part, up to the first wrong item (own;
-- docs/EXPLAIN.md). The parts are those that a value is spelled of, and what is read is what the strict profile
-- reads. S is the schema's declarations, d the composite levels left, t the type, b the bytes up to the limit;
-- `inside` says that a record is being read; `path` is that of the value, and `note` notes a part of a value.
use Rattle.std.specs.Prelude.{ℕ, zero, suc, ◌+◌, Bool, true, false, if◌then◌else◌, List, [], ◌∷◌, ◌++◌, length}
use Rattle.std.specs.Prelude.{drop, Option, Some, None, Result, Ok, Err, codes}
use Rattle.std.specs.Fmt.{decimal}
use Rattle.aidl_base.specs.declared.profile.Profile.TheVariants.{Strict}
use Rattle.aidl_base.specs.Readings.{Read, truth_at, byte_at, char_at, word_at, long_at}
unfoldable use Rattle.aidl_base.specs.Readings.{count_at, block_at, raw_at}
use Rattle.aidl_schema.specs.declared.schema.AidlType.{AidlType}
use Rattle.aidl_schema.specs.declared.schema.Decl.{Decl}
use Rattle.aidl_schema.specs.declared.schema.Field.{Field}
use Rattle.aidl_schema.specs.Types.{Form, form_of, is_one, is_raw, elem}
use Rattle.aidl_schema.specs.Types as form
use Rattle.wire_model.specs.Status.{bad_value}
use Rattle.parcel_explain.specs.declared.item.Item.{Item}
use Rattle.parcel_explain.specs.declared.item.ItemKind.TheVariants as kind
unfoldable use Rattle.parcel_explain.specs.Marks.{elements_count_at, value_marker_at, size_at, field_tag_at}
use Rattle.parcel_explain.specs.Noted.{Part, Wrong, Notes, ◌>>=◌, before, item, joined, no_more, part, part_of_some}

-- how a part of a value is noted, by its type and its path
abbrev pub Noting : Type 0
Noting = AidlType → List ℕ → Bool → List ℕ → Notes

-- the path of a part: its position or its name behind the path of the value
abbrev pub below : List ℕ → List ℕ → List ℕ
below path step = path ++ codes "/" ++ step

-- a word or a long
abbrev pub value_item : {A : Type 0} → List ℕ → (List ℕ → Read A) → List ℕ → Notes
value_item path read b = do
  x ← item path kind.Value read b
  no_more x.1

-- the block of a text, where it isn't null
abbrev pub block_item : List ℕ → Bool → Option ℕ → List ℕ → Notes
block_item path inside None b = no_more b
block_item path inside (Some n) b = do
  x ← item path kind.Block (λ c. block_at Strict n inside c) b
  no_more x.1

-- a String
unfoldable pub text_items : Bool → List ℕ → Bool → List ℕ → Notes
text_items nullable path inside b = do
  n ← item path kind.Count (λ c. count_at nullable inside c) b
  block_item path inside n.0 n.1

-- raw bytes, which are left out where there are none
abbrev pub bytes_item : List ℕ → List ℕ → Read (List ℕ) → Notes
bytes_item path b (Ok x) = record { parts = part_of_some path kind.Bytes (before x.1 b); found = Ok (tt, x.1) }
bytes_item path b (Err s) = record { parts = []; found = Err (record { path = path; status = s }) }

-- n elements, the first of which is at the position k
abbrev pub elements_items : (List ℕ → List ℕ → Notes) → List ℕ → ℕ → ℕ → List ℕ → Notes
elements_items note path k zero b = no_more b
elements_items note path k (suc n) b = do
  x ← note (below path (decimal k)) b
  elements_items note path (k + 1) n x.1

-- what follows a count
abbrev pub counted_items : Bool → (List ℕ → List ℕ → Notes) → List ℕ → Bool → Option ℕ → List ℕ → Notes
counted_items raw note path inside None b = no_more b
counted_items raw note path inside (Some n) b = if raw then bytes_item path b (raw_at Strict n inside b)
    else elements_items note path 0 n b

-- an array or a List
unfoldable pub sequence_items : Bool → Bool → Bool → (List ℕ → List ℕ → Notes) → List ℕ → Bool → List ℕ → Notes
sequence_items left raw nullable note path inside b = do
  n ← item path kind.Count (λ c. elements_count_at left nullable inside c) b
  counted_items raw note path inside n.0 n.1

-- the fields of a record, as far as its bytes go
abbrev pub fields_items : (AidlType → List ℕ → List ℕ → Notes) → List ℕ → List Field → List ℕ → Notes
fields_items note path [] b = no_more b
fields_items note path (f ∷ fs) [] = no_more []
fields_items note path (f ∷ fs) (y ∷ b) = do
  x ← note f.ty (below path f.name.0) (y ∷ b)
  fields_items note path fs x.1

-- what is left of a record's bytes, which is left out where nothing is; and then the bytes after the record
abbrev pub tail_item : List ℕ → List ℕ → List ℕ → Notes
tail_item path rest after = record { parts = part_of_some path kind.Tail rest; found = Ok (tt, after) }

-- a parcelable after its marker
unfoldable pub body_items : (AidlType → List ℕ → List ℕ → Notes) → List ℕ → List Field → Bool → List ℕ → Notes
body_items note path fs inside b = do
  z ← item path kind.Size (λ c. size_at inside c) b
  rest ← fields_items note path fs z.0.0
  tail_item path rest.1 z.0.1

-- a parcelable
unfoldable pub record_items : Bool → Bool → (AidlType → List ℕ → List ℕ → Notes) → List ℕ → List Field
    → Bool → List ℕ → Notes
record_items left nullable note path fs inside b = do
  m ← item path kind.Marker (λ c. value_marker_at left nullable inside c) b
  if m.0 then body_items note path fs inside m.1 else no_more m.1

-- a union after its marker
unfoldable pub chosen_items : (AidlType → List ℕ → List ℕ → Notes) → List ℕ → List Field → Bool → List ℕ → Notes
chosen_items note path fs inside b = do
  f ← item path kind.Tag (λ c. field_tag_at fs inside c) b
  note f.0.ty (below path f.0.name.0) f.1

-- a union
unfoldable pub union_items : Bool → Bool → (AidlType → List ℕ → List ℕ → Notes) → List ℕ → List Field
    → Bool → List ℕ → Notes
union_items left nullable note path fs inside b = do
  m ← item path kind.Marker (λ c. value_marker_at left nullable inside c) b
  if m.0 then chosen_items note path fs inside m.1 else no_more m.1

-- what is no type has no parts, and is wrong with BAD_VALUE
abbrev pub no_items : List ℕ → Notes
no_items path = record { parts = []; found = Err (record { path = path; status = bad_value }) }

-- one value that is no sequence, by what its type means
abbrev pub one_items : Bool → Noting → Bool → List ℕ → Form → Bool → List ℕ → Notes
one_items left note nullable path form.truth inside b = value_item path (λ c. truth_at Strict inside c) b
one_items left note nullable path form.byte inside b = value_item path (λ c. byte_at Strict inside c) b
one_items left note nullable path form.char inside b = value_item path (λ c. char_at Strict inside c) b
one_items left note nullable path form.int inside b = value_item path (λ c. word_at inside c) b
one_items left note nullable path form.long inside b = value_item path (λ c. long_at inside c) b
one_items left note nullable path form.text inside b = text_items nullable path inside b
one_items left note nullable path (form.parcelable fs) inside b =
    record_items left nullable (λ u q c. note u q true c) path fs inside b
one_items left note nullable path (form.union fs) inside b =
    union_items left nullable (λ u q c. note u q inside c) path fs inside b
one_items left note nullable path form.nothing inside b = no_items path

-- one level
abbrev pub items_by : List Decl → Bool → Noting → AidlType → List ℕ → Bool → List ℕ → Notes
items_by S left note t path inside b = if is_one t.shape
    then one_items left note t.nullable path (form_of S t.base) inside b
    else sequence_items left (is_raw S t) t.nullable (λ q c. note (elem S t) q inside c) path inside b

-- the items of a value at the front of the bytes
unfoldable pub items_of : List Decl → ℕ → AidlType → List ℕ → Bool → List ℕ → Notes
items_of S zero t path inside b = items_by S false (λ u q j c. no_items q) t path inside b
items_of S (suc d) t path inside b = items_by S true (λ u q j c. items_of S d u q j c) t path inside b

-- values of these types, one after the other, the first of which is value k
abbrev pub values_items : List Decl → ℕ → List AidlType → List ℕ → Notes
values_items S k [] b = no_more b
values_items S k (t ∷ ts) b = do
  x ← items_of S 64 t (below [] (decimal k)) false b
  values_items S (k + 1) ts x.1

-- what stands behind the parts: bytes that are left, or all bytes from the first wrong item on
abbrev pub last_part : List ℕ → Result (Unit {0} × List ℕ) Wrong → List Part
last_part rest (Ok x) = part_of_some [] kind.Left rest
last_part rest (Err wrong) = part wrong.path (kind.Stop wrong.status) rest

-- the parts of a parcel's bytes, by the types of its values
abbrev pub parts_of : List Decl → List AidlType → List ℕ → List Part
parts_of S ts b = let x = values_items S 0 ts b in x.parts ++ last_part (drop (length (joined x.parts)) b) x.found

-- parts as items, from an offset in bytes on
abbrev pub placed : ℕ → List Part → List Item
placed n [] = []
placed n (p ∷ ps) =
    record { offset = n; length = length p.bytes; path = p.path; kind = p.kind } ∷ placed (n + length p.bytes) ps

-- the items of a parcel's bytes, each with its offset
abbrev pub explained : List Decl → List AidlType → List ℕ → List Item
explained S ts b = placed 0 (parts_of S ts b)
