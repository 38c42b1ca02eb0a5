-- A part, and a default, for a reader that holds its levels as a number.
use Rattle.std.specs.Prelude.{ℕ, zero, suc, List, Ok}
use Rattle.serde_json.specs.Data as json
use Rattle.aidl_schema.specs.declared.schema.Decl.{Decl}
use Rattle.aidl_schema.specs.declared.schema.Field.{Field}
use Rattle.aidl_schema.specs.declared.schema.AidlType.{AidlType}
use Rattle.aidl_values.specs.Data as value
use Rattle.json_values.specs.FromJson.{default_from, from_json_of}
use Rattle.json_values.specs.Refusal.{Answer, ◌>>=◌, refuse, too_deep, escaped, within}

-- a part of what has d levels
abbrev pub part_from : List Decl → ℕ → AidlType → json.Data → Answer value.Data
part_from S zero u j = refuse too_deep
part_from S (suc d) u j = from_json_of S d u j

-- the default of a field of what has d levels
abbrev pub default_of : List Decl → ℕ → Field → Answer value.Data
default_of S zero f = refuse too_deep
default_of S (suc d) f = default_from d S f

-- the same as functions
abbrev pub part_of : List Decl → ℕ → AidlType → json.Data → Answer value.Data
part_of S d = λ u j. part_from S d u j

abbrev pub default_in : List Decl → ℕ → Field → Answer value.Data
default_in S d = λ f. default_of S d f

-- what an object of a union is, by the field that its key names and the field's position
abbrev pub chosen_from : (AidlType → json.Data → Answer value.Data) → ℕ → Field → List ℕ → json.Data → Answer value.Data
chosen_from read k f key j = within (escaped key) (do
  v ← read f.ty j
  Ok (value.alt k v))
