-- A value as compact JSON.
use Rattle.std.specs.Prelude.{ℕ, List}
use Rattle.serde_json.specs.Written.{compact_text}
use Rattle.aidl_schema.specs.declared.schema.Decl.{Decl}
use Rattle.aidl_schema.specs.declared.schema.AidlType.{AidlType}
use Rattle.aidl_values.specs.Data.{Data}
use Rattle.json_writing.specs.Json.{json_of}

-- of the type
abbrev pub value_text : List Decl → AidlType → Data → List ℕ
value_text S t v = compact_text (json_of S t v)
