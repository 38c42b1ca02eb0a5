-- *Fits*: which values can be written (own).
use Rattle.std.specs.Prelude.{◌≤◌, List}
use Rattle.aidl_schema.specs.declared.schema.Decl.{Decl}
use Rattle.aidl_schema.specs.declared.schema.AidlType.{AidlType}
use Rattle.aidl_values.specs.Data.{Data, depth_of}
use Rattle.aidl_values.specs.HasType.{HasType}

-- The value has the type, and its composite depth is at most 64.
pub record Fits (S : List Decl) (t : AidlType) (v : Data) : Type 0 where
  pub typed : HasType S t v
  pub deep : depth_of v ≤ 64
