-- The value that a JSON value stands for, or the first refusal (own). S is the schema's declarations, d the levels
-- left, t the type. The order is: the kind of the value; its depth; the least unknown key; the elements in order,
-- or the fields in the order of the declaration. `left` says that a level is left, `read` reads a part of a type.
use Rattle.std.specs.Prelude.{ℕ, zero, suc, ⊤, nat_le, Bool, true, false, ◌&&◌, if◌then◌else◌, List, [], ◌∷◌}
use Rattle.std.specs.Prelude.{Option, Some, None, decimal, Ok}
use Rattle.std.specs.List.{list_any}
use Rattle.serde_json.specs.Data.{null, array, object, no_items, item, no_members, member}
use Rattle.serde_json.specs.Data as json
use Rattle.serde_json.specs.Find.{get_member}
use Rattle.aidl_schema.specs.declared.schema.Decl.{Decl}
use Rattle.aidl_schema.specs.declared.schema.Enumerator.{Enumerator}
use Rattle.aidl_schema.specs.declared.schema.Field.{Field}
use Rattle.aidl_schema.specs.declared.schema.AidlType.{AidlType}
use Rattle.aidl_schema.specs.Same.{same_text}
use Rattle.aidl_schema.specs.Types.{Form, form_of, is_one, elem}
use Rattle.aidl_schema.specs.Types as form
use Rattle.aidl_values.specs.Data.{depth_of}
use Rattle.aidl_values.specs.Data as value
use Rattle.aidl_values.specs.Sound.{initial_in}
use Rattle.json_writing.specs.Named.{bytes_of, enumerators_of}
use Rattle.json_values.specs.Refusal.{Answer, ◌>>=◌, refuse, wrong_shape, unknown_key, too_deep, escaped, within}
use Rattle.json_values.specs.Scalars.{truth_from, number_from, text_from}

-- the elements, the first of which is at this index
abbrev pub items_from : (json.Data → Answer value.Data) → ℕ → json.Items → Answer value.Items
items_from read k no_items = Ok value.none
items_from read k (item j js) = do
  first ← within (decimal k) (read j)
  others ← items_from read (suc k) js
  Ok (value.item first others)

-- an array or a List: an array
abbrev pub elements_from : (json.Data → Answer value.Data) → json.Items → Answer value.Data
elements_from read js = do
  vs ← items_from read 0 js
  Ok (value.seq vs)

abbrev pub sequence_from : Bool → (json.Data → Answer value.Data) → json.Data → Answer value.Data
sequence_from left read (array js) = if left then elements_from read js else refuse too_deep
sequence_from left read _ = refuse wrong_shape

-- a field has this name
abbrev pub has_name : List ℕ → Field → Bool
has_name key f = same_text (bytes_of f.name) key

-- the least key that names no field: an object has its keys in byte order
abbrev pub unknown_in : List Field → json.Members → Option (List ℕ)
unknown_in fs no_members = None
unknown_in fs (member key j ms) = if list_any (λ f. has_name key f) fs then unknown_in fs ms else Some key

abbrev pub known_from : Option (List ℕ) → Answer ⊤
known_from None = Ok tt
known_from (Some key) = within (escaped key) (refuse unknown_key)

-- a field's member, or else its default
abbrev pub field_from : (Field → Answer value.Data) → (AidlType → json.Data → Answer value.Data) → Field
    → Option json.Data → Answer value.Data
field_from default read f None = default f
field_from default read f (Some j) = read f.ty j

-- the fields in the order of the declaration, each under its name
abbrev pub fields_from : (Field → Answer value.Data) → (AidlType → json.Data → Answer value.Data) → List Field
    → (List ℕ → Option json.Data) → Answer value.Items
fields_from default read [] found = Ok value.none
fields_from default read (f ∷ fs) found = do
  first ← within (escaped (bytes_of f.name)) (field_from default read f (found (bytes_of f.name)))
  others ← fields_from default read fs found
  Ok (value.item first others)

-- parcelable: an object
abbrev pub object_from : (Field → Answer value.Data) → (AidlType → json.Data → Answer value.Data) → List Field
    → json.Members → Answer value.Data
object_from default read fs ms = do
  known ← known_from (unknown_in fs ms)
  vs ← fields_from default read fs (λ key. get_member key ms)
  Ok (value.rec vs)

abbrev pub record_from : Bool → (Field → Answer value.Data) → (AidlType → json.Data → Answer value.Data)
    → List Field → json.Data → Answer value.Data
record_from left default read fs (object ms) = if left then object_from default read fs ms else refuse too_deep
record_from left default read fs _ = refuse wrong_shape

-- the one member of a union's object, among these fields, the first of which is at this position
abbrev pub alternative_from : (AidlType → json.Data → Answer value.Data) → ℕ → List Field → List ℕ
    → json.Data → Answer value.Data
alternative_from read k [] key j = within (escaped key) (refuse unknown_key)
alternative_from read k (f ∷ fs) key j = if has_name key f then within (escaped key) (do
  v ← read f.ty j
  Ok (value.alt k v)) else alternative_from read (suc k) fs key j

-- the one member of an object, if it has no other
abbrev pub only_member : json.Members → Option (List ℕ × json.Data)
only_member (member key j no_members) = Some (key, j)
only_member _ = None

-- union: an object with one key, the field's name
abbrev pub union_of : Bool → (AidlType → json.Data → Answer value.Data) → List Field
    → Option (List ℕ × json.Data) → Answer value.Data
union_of left read fs None = refuse wrong_shape
union_of left read fs (Some m) = if left then alternative_from read 0 fs m.0 m.1 else refuse too_deep

abbrev pub union_from : Bool → (AidlType → json.Data → Answer value.Data) → List Field → json.Data → Answer value.Data
union_from left read fs (object ms) = union_of left read fs (only_member ms)
union_from left read fs _ = refuse wrong_shape

-- one value that is no sequence, by what its base means
abbrev pub one_from : Bool → (Field → Answer value.Data) → (AidlType → json.Data → Answer value.Data)
    → Option (List Enumerator) → Form → json.Data → Answer value.Data
one_from left default read es form.truth j = truth_from j
one_from left default read es form.text j = text_from j
one_from left default read es (form.parcelable fs) j = record_from left default read fs j
one_from left default read es (form.union fs) j = union_from left read fs j
one_from left default read es form.nothing j = refuse wrong_shape
one_from left default read es f j = number_from es f j

abbrev pub is_null : json.Data → Bool
is_null null = true
is_null _ = false

-- null where the type may be null; else one value or a sequence
abbrev pub from_by : List Decl → Bool → (Field → Answer value.Data) → (AidlType → json.Data → Answer value.Data)
    → AidlType → json.Data → Answer value.Data
from_by S left default read t j = if t.nullable && is_null j then Ok value.null
    else (if is_one t.shape then one_from left default read (enumerators_of S t.base) (form_of S t.base) j
    else sequence_from left (read (elem S t)) j)

-- a field's default, where it fits in the levels left
abbrev pub default_from : ℕ → List Decl → Field → Answer value.Data
default_from d S f = if nat_le (depth_of (initial_in S f)) d then Ok (initial_in S f) else refuse too_deep

-- The value that has at most d levels, or the first refusal.
unfoldable pub from_json_of : List Decl → ℕ → AidlType → json.Data → Answer value.Data
from_json_of S zero t j = from_by S false (λ f. refuse too_deep) (λ u j. refuse too_deep) t j
from_json_of S (suc d) t j = from_by S true (λ f. default_from d S f) (λ u j. from_json_of S d u j) t j
