-- What is known of the numbers that names mean.
use Rattle.std.specs.Prelude.{◌≡◌, ℕ, ◌<◌, List, length, Option, Some, None}
use Rattle.aidl_schema.specs.declared.schema.Decl.{Decl}
use Rattle.aidl_schema.specs.Find.{methods_at}
use Rattle.call_scripts.specs.declared.names.Named as code
use Rattle.call_scripts.specs.Calls.{IsServer, method_of_server}
use Rattle.wire_model.specs.MethodOf.{method_of}

-- the method is one of the interface
abbrev pub IsWithin : List Decl → Option ℕ → Option ℕ → Type 0
IsWithin B (Some j) (Some k) = k < length (methods_at B j)
IsWithin B None (Some k) = ⊥
IsWithin B server None = Unit {0}

-- the numbers of a call between the declarations A and B
pub record IsNamed (A B : List Decl) (n : code.Named) : Type 0 where
  pub there : n.method < length (methods_at A n.interface)
  pub server : IsServer A B n.interface n.server
  pub target : n.target ≡ method_of_server (method_of A n.interface n.method) B n.server
  pub within : IsWithin B n.server n.target
