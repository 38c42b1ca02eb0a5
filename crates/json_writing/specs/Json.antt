-- The JSON value that a value is written as (own). `null` below is JSON's null, and so on.
use Rattle.std.specs.Prelude.{ℤ, if◌then◌else◌, List, [], ◌∷◌, Option, Some, None, slice_get}
use Rattle.std.specs.Ordering.{int_eq}
use Rattle.std.specs.Str.{encode_utf8_all}
use Rattle.serde_json.specs.Data.{null, boolean, number, string, array, object, no_items, item, no_members, member, put}
use Rattle.serde_json.specs.Data as json
use Rattle.serde_json.specs.Find.{of_integer}
use Rattle.aidl_base.specs.declared.name.Ident.{Ident}
use Rattle.aidl_schema.specs.declared.schema.Decl.{Decl}
use Rattle.aidl_schema.specs.declared.schema.Enumerator.{Enumerator}
use Rattle.aidl_schema.specs.declared.schema.Field.{Field}
use Rattle.aidl_schema.specs.declared.schema.AidlType.{AidlType}
use Rattle.aidl_schema.specs.Types.{form_of, elem}
use Rattle.aidl_values.specs.Data as value
use Rattle.json_writing.specs.Named.{bytes_of, fields_in, enumerators_of}

-- a number: by the name of the first of these enumerators that has it, else a whole number
abbrev pub json_among : List Enumerator → ℤ → json.Data
json_among [] n = number (of_integer n)
json_among (e ∷ es) n = if int_eq e.value n then string (bytes_of e.name) else json_among es n

-- the same, by the name where there is one
abbrev pub json_named : Option Ident → ℤ → json.Data
json_named None n = number (of_integer n)
json_named (Some name) n = string (bytes_of name)

-- a byte, char, int or long as a whole number, an enum's value among its enumerators
abbrev pub json_number : Option (List Enumerator) → ℤ → json.Data
json_number None n = number (of_integer n)
json_number (Some es) n = json_among es n

-- an object with one key, the field's name
abbrev pub json_alternative : Option Field → (AidlType → json.Data) → json.Data
json_alternative None written = null
json_alternative (Some f) written = object (member (bytes_of f.name) (written f.ty) no_members)

-- the fields of what a type's base means
abbrev pub fields_of_type : List Decl → AidlType → List Field
fields_of_type S t = fields_in (form_of S t.base)

abbrev mutual
  -- The JSON value, by cases on the value: null, true or false, a number, a string, an array, and an object with every
  -- field or with one.
  pub json_of : List Decl → AidlType → value.Data → json.Data
  json_of S t value.null = null
  json_of S t (value.truth b) = boolean b
  json_of S t (value.number n) = json_number (enumerators_of S t.base) n
  json_of S t (value.text x) = string (encode_utf8_all x)
  json_of S t (value.seq vs) = array (json_items S (elem S t) vs)
  json_of S t (value.rec vs) = object (json_members S (fields_of_type S t) vs)
  json_of S t (value.alt k v) = json_alternative (slice_get (fields_of_type S t) k) (λ u. json_of S u v)

  -- each element
  pub json_items : List Decl → AidlType → value.Items → json.Items
  json_items S t value.none = no_items
  json_items S t (value.item v vs) = item (json_of S t v) (json_items S t vs)

  -- each field under its name, the keys in byte order
  pub json_members : List Decl → List Field → value.Items → json.Members
  json_members S [] vs = no_members
  json_members S (f ∷ fs) value.none = no_members
  json_members S (f ∷ fs) (value.item v vs) = put (bytes_of f.name) (json_of S f.ty v) (json_members S fs vs)
