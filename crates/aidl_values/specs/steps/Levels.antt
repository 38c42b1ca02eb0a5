-- Levels that the code holds as a number.
use Rattle.std.specs.Prelude.{ℕ, zero, suc, Bool, true, false, List}
use Rattle.aidl_schema.specs.declared.schema.Decl.{Decl}
use Rattle.aidl_schema.specs.declared.schema.AidlType.{AidlType}
use Rattle.aidl_values.specs.Data.{Data, null}
use Rattle.aidl_values.specs.Default.{zero_within}

-- a level is left for the parts of a value
abbrev pub is_level_left : ℕ → Bool
is_level_left zero = false
is_level_left (suc n) = true

-- the default of a part, of what has n levels
abbrev pub zero_parts : ℕ → List Decl → AidlType → Data
zero_parts zero S u = null
zero_parts (suc n) S u = zero_within n S u
