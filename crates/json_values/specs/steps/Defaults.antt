-- The defaults of the fields that an object leaves out.
use Rattle.std.specs.Prelude.{◌≡◌, ◌-◌, ◌^◌, ℕ, List, map, min, Some, slice_get}
use Rattle.aidl_schema.specs.declared.schema.Decl.{Decl}
use Rattle.aidl_schema.specs.declared.schema.Field.{Field}
use Rattle.aidl_values.specs.Data.{Data, depth_of, rec}
use Rattle.aidl_values.specs.Sound.{initial_in}
use Rattle.aidl_values.specs.View.{view, items_of}
use Rattle.json_values.specs.declared.default_rows.Defaults.{Defaults}

-- the data of defaults
abbrev pub datas_of : Defaults → List Data
datas_of d = map view d.row.value

-- how many levels a value has, which a machine number holds
abbrev pub level_of : Data → ℕ
level_of v = min (depth_of v) (2 ^ 64 - 1)

-- these are the defaults of the fields, with the levels of each, and of a record of all
abbrev pub AreDefaults : List Decl → List Field → Defaults → Type 0
AreDefaults S fs d = (datas_of d ≡ map (initial_in S) fs) × (d.levels.items ≡ map level_of (datas_of d))
    × (d.whole ≡ level_of (rec (items_of (datas_of d))))

-- at a position stands the default of a field, with its levels
abbrev pub HasDefaultAt : List Decl → Field → Defaults → ℕ → Type 0
HasDefaultAt S f d i = (slice_get (datas_of d) i ≡ Some (initial_in S f))
    × (slice_get d.levels.items i ≡ Some (level_of (initial_in S f)))
