-- The bytes of the code's own values.
use Rattle.std.specs.Prelude.{ℕ, List, map}
use Rattle.aidl_schema.specs.declared.schema.AidlType.{AidlType}
use Rattle.aidl_schema.specs.declared.schema.Decl.{Decl}
use Rattle.aidl_values.specs.View.{view}
use Rattle.aidl_values.specs.declared.value.Value.{Value}
use Rattle.parcel_commands.specs.Encode.{spell_values}

-- what spells values of some types
abbrev pub spelled : List Decl → List AidlType → List Value → List ℕ
spelled S types values = spell_values S types (map view values)
