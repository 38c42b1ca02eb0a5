-- The values of a record as a list.
use Rattle.std.specs.Prelude.{ℕ, zero, suc, Bool, true, false, if◌then◌else◌, List, [], ◌∷◌, map}
use Rattle.aidl_schema.specs.declared.schema.Decl.{Decl}
use Rattle.aidl_schema.specs.declared.schema.Field.{Field}
use Rattle.aidl_values.specs.Data.{Data}
use Rattle.aidl_values.specs.Sound.{initial_in}
use Rattle.compat_witness.specs.Reaching.{plain_value}

-- of one field: z0 or z1 where it is meant, and else its default
abbrev pub part : List Decl → Bool → Bool → Field → Data
part S high is_meant f = if is_meant then plain_value high f.ty.base else initial_in S f

-- of all fields
abbrev pub parts : List Decl → Bool → ℕ → List Field → List Data
parts S high k [] = []
parts S high zero (f ∷ fs) = part S high true f ∷ map (λ g. part S high false g) fs
parts S high (suc k) (f ∷ fs) = part S high false f ∷ parts S high k fs
