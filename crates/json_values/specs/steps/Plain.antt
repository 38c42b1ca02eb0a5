-- Numbers and truth values that are read without a look at the schema.
use Rattle.std.specs.Prelude.{◌≡◌, ◌<◌, ℕ, ℤ, Bool, false, List, Ok}
use Rattle.serde_json.specs.Data as json
use Rattle.aidl_schema.specs.declared.schema.AidlType.{AidlType}
use Rattle.aidl_schema.specs.declared.schema.Base.{Base}
use Rattle.aidl_schema.specs.declared.schema.Base.TheVariants as base
use Rattle.aidl_schema.specs.declared.schema.Decl.{Decl}
use Rattle.aidl_schema.specs.declared.schema.Field.{Field}
use Rattle.aidl_schema.specs.Constants.{in_range}
use Rattle.aidl_schema.specs.Types as form
use Rattle.aidl_values.specs.Data as value
use Rattle.json_values.specs.Refusal.{Answer}
use Rattle.json_values.specs.FromJson.{elements_from, from_by}
use Rattle.json_values.specs.steps.Levels.{part_from}

-- in the range of a byte, char, int or long
abbrev pub is_in_base : Base → ℤ → Bool
is_in_base base.Byte n = in_range form.byte n
is_in_base base.Char n = in_range form.char n
is_in_base base.Int n = in_range form.int n
is_in_base base.Long n = in_range form.long n
is_in_base base.Boolean n = false
is_in_base base.Text n = false
is_in_base (base.Named d) n = false

-- whatever the declarations and the levels are, the JSON value is read as this
abbrev pub IsPlain : AidlType → json.Data → value.Data → Type 0
IsPlain t j v = (S : List Decl) → (left : Bool) → (default : Field → Answer value.Data)
    → (read : AidlType → json.Data → Answer value.Data) → from_by S left default read t j ≡ Ok v

-- whatever the declarations are, and however many levels are left, the elements are read as this
abbrev pub ArePlain : AidlType → json.Items → value.Data → Type 0
ArePlain t js v = (S : List Decl) → (d : ℕ) → 0 < d → elements_from (λ j. part_from S d t j) js ≡ Ok v
