-- Reading a part, for a reader that holds its levels as a number.
use Rattle.std.specs.Prelude.{ℕ, zero, suc, Bool, List, Err}
use Rattle.aidl_base.specs.declared.profile.Profile.{Profile}
use Rattle.aidl_schema.specs.declared.schema.Decl.{Decl}
use Rattle.aidl_schema.specs.declared.schema.AidlType.{AidlType}
use Rattle.aidl_values.specs.Data.{Data}
use Rattle.wire_model.specs.ReadOf.{Read, read_of}
use Rattle.wire_model.specs.Status.{bad_value}

-- a part of what has d levels left
abbrev pub read_parts : Profile → List Decl → ℕ → AidlType → Bool → List ℕ → Read Data
read_parts p S zero u inside b = Err bad_value
read_parts p S (suc d) u inside b = read_of p S d u inside b
