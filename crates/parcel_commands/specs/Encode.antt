-- What `encode` answers of the text of its file, by the types of a schema (own; the spellings are those of Parcel.cpp).
use Rattle.std.specs.Prelude.{ℕ, List, [], ◌∷◌, ◌++◌, Option, Some, None, Ok, Err, codes}
use Rattle.hex.specs.Hex.{encode_lower}
use Rattle.serde_json.specs.Data as json
use Rattle.aidl_base.specs.declared.limit.LimitName.TheVariants.{ParcelBytes}
use Rattle.aidl_schema.specs.declared.schema.Decl.{Decl}
use Rattle.aidl_schema.specs.declared.schema.AidlType.{AidlType}
use Rattle.aidl_values.specs.Data.{Data}
use Rattle.json_values.specs.JsonText.{parsed_json}
use Rattle.json_values.specs.Refusal as refusal
use Rattle.json_values.specs.Refusal.{Reason, Refusal, wrong_shape, out_of_range, unknown_key, unknown_enumerator}
use Rattle.json_values.specs.Refusal.{too_deep}
use Rattle.wire_model.specs.Spell.{spell}
use Rattle.tool_frame.specs.Answer.{Answer, Found, ◌>>=◌, done, negative}
use Rattle.parcel_commands.specs.JsonFile.{values_of}
use Rattle.tool_frame.specs.Refusals.{within}
use Rattle.parcel_commands.specs.Refusals.{known_types}

-- the name of a refusal of a JSON value
abbrev pub reason_name : Reason → List ℕ
reason_name wrong_shape = codes "WrongShape"
reason_name out_of_range = codes "OutOfRange"
reason_name unknown_key = codes "UnknownKey"
reason_name unknown_enumerator = codes "UnknownEnumerator"
reason_name too_deep = codes "TooDeep"

-- a refusal's name and its place, which may be empty
abbrev pub refused : List ℕ → List ℕ → Answer
refused name at = negative (codes "refused " ++ name ++ codes " " ++ at)

-- the value of a JSON text; else `refused NotJson ` with no place
abbrev pub json_found : Option json.Data → Found json.Data
json_found None = Err (refused (codes "NotJson") [])
json_found (Some j) = Ok j

-- the values of an array, one of each type; else the first refusal
abbrev pub values_found : refusal.Answer (List Data) → Found (List Data)
values_found (Ok vs) = Ok vs
values_found (Err r) = Err (refused (reason_name r.reason) r.at)

-- the spellings of values, one after the other
abbrev pub spell_values : List Decl → List AidlType → List Data → List ℕ
spell_values S (t ∷ ts) (v ∷ vs) = spell S t v ++ spell_values S ts vs
spell_values S [] vs = []
spell_values S (t ∷ ts) [] = []

-- The refusals in their order, a line each; else the parcel of the values.
abbrev pub encode_answer : List Decl → List ℕ → List ℕ → Answer
encode_answer S types text = do
  known ← known_types S types  -- `bad type`
  j ← json_found (parsed_json text)  -- `refused NotJson`
  values ← values_found (values_of S known j)  -- the other refusals
  parcel ← within ParcelBytes (spell_values S known values)  -- `limit parcel-bytes`
  done (encode_lower parcel)
