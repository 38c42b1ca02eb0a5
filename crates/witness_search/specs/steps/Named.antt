-- Look-ups by names in UTF-8.
use Rattle.std.specs.Prelude.{ℕ, List, Option, option_and_then}
use Rattle.aidl_schema.specs.declared.schema.Decl.{Decl}
use Rattle.aidl_schema.specs.Find.{methods_at, number_of_name}
use Rattle.compat_witness.specs.Places.{Spot, at_last_dot, spot_at}
pub use Rattle.witness_calls.specs.Named.{field_named, method_named}

-- the method that a place names
abbrev pub spot_named : List Decl → List ℕ → Option Spot
spot_named S place = option_and_then (λ q.
    option_and_then (λ i. spot_at S i (method_named (methods_at S i) q.1)) (number_of_name S q.0)) (at_last_dot place)
