-- The values that an object gives of a record's fields.
use Rattle.std.specs.Prelude.{◌≡◌, ◌<◌, ℕ, true, Bool, List, length, map, Option, Some, None, is_some, Result, Ok, Err}
use Rattle.std.specs.List.{All}
use Rattle.serde_json.specs.Data as json
use Rattle.serde_json.specs.Find.{get_member}
use Rattle.aidl_schema.specs.declared.schema.Field.{Field}
use Rattle.aidl_schema.specs.declared.schema.AidlType.{AidlType}
use Rattle.aidl_values.specs.Data.{Data, Items, rec}
use Rattle.aidl_values.specs.Given.{overlaid}
use Rattle.aidl_values.specs.View.{view}
use Rattle.aidl_values.specs.declared.value.Value.{Value}
use Rattle.json_writing.specs.Named.{bytes_of}
use Rattle.json_values.specs.declared.fault.Fault.{Fault}
use Rattle.json_values.specs.declared.fault.Reason as code
use Rattle.json_values.specs.declared.given.Given.{Given}
use Rattle.json_values.specs.FromJson.{field_from, known_from, unknown_in}
use Rattle.json_values.specs.Refusal.{Answer, ◌>>=◌, escaped, within}
use Rattle.json_values.specs.steps.Gives.{Fails}

-- a field has a member
abbrev pub is_found : json.Members → Field → Bool
is_found ms f = is_some (get_member (bytes_of f.name) ms)

-- a field under its name
abbrev pub named_from : (Field → Answer Data) → (AidlType → json.Data → Answer Data) → json.Members
    → Field → Answer Data
named_from default read ms f =
    within (escaped (bytes_of f.name)) (field_from default read f (get_member (bytes_of f.name) ms))

-- the value of a field's member, or the refusal of one; None is a field without a member
abbrev pub GivesMember : (Field → Answer Data) → (AidlType → json.Data → Answer Data) → json.Members → Field
    → Result (Option Value) (Fault code.Reason) → Type 0
GivesMember default read ms f (Ok (Some v)) = (is_found ms f ≡ true) × (named_from default read ms f ≡ Ok (view v))
GivesMember default read ms f (Ok None) = get_member (bytes_of f.name) ms ≡ None
GivesMember default read ms f (Err e) = Fails e (named_from default read ms f)

-- what was given, or else another
abbrev pub given_or : Option Value → Data → Data
given_or (Some v) d = view v
given_or None d = d

-- each value that was given has its place, before a position
abbrev pub AreGiven : Given → ℕ → Type 0
AreGiven g i = All (λ p. p < i) g.places × (length g.places ≡ length g.values.items)

-- values of which some are given
abbrev pub filled : Given → List Data → List Data
filled g ds = overlaid g.places (map view g.values.items) 0 ds

-- the fields as a record, or the refusal of one
abbrev pub as_record : Answer Items → Answer Data
as_record fields = do
  vs ← fields
  Ok (rec vs)

-- what was read, unless a key names no field
abbrev pub after_keys : List Field → json.Members → Answer Data → Answer Data
after_keys fs ms read = do
  known ← known_from (unknown_in fs ms)
  read
