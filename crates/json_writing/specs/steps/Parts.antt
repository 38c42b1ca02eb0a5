-- What the values of a record are written as, place by place.
use Rattle.std.specs.Prelude.{ℕ, List, [], ◌∷◌, get_or}
use Rattle.serde_json.specs.Data as json
use Rattle.aidl_schema.specs.declared.schema.Decl.{Decl}
use Rattle.aidl_schema.specs.declared.schema.Field.{Field}
use Rattle.aidl_values.specs.Data.{Data}
use Rattle.json_writing.specs.Json.{json_of}

-- each by the type of its field
abbrev pub parts : List Decl → List Field → List Data → List json.Data
parts S [] vs = []
parts S (f ∷ fs) [] = []
parts S (f ∷ fs) (v ∷ vs) = json_of S f.ty v ∷ parts S fs vs

-- the one at a place
abbrev pub part_at : List Decl → List Field → List Data → ℕ → json.Data
part_at S fs vs i = get_or (parts S fs vs) i json.null
