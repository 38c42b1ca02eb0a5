-- Which methods and fields the places of broken rules name (own).
use Rattle.std.specs.Prelude.{ℕ, ◌==◌, if◌then◌else◌, List, [], ◌∷◌, Option, Some, None, option_map, option_and_then}
use Rattle.std.specs.List.{position}
use Rattle.aidl_schema.specs.declared.schema.Decl.{Decl}
use Rattle.aidl_schema.specs.declared.schema.Method.{Method}
use Rattle.aidl_schema.specs.Broken.{Place}
use Rattle.aidl_schema.specs.Find.{methods_at}
use Rattle.aidl_schema.specs.Same.{same_text}
use Rattle.wire_model.specs.Calls.{descriptor, method_at}
pub use Rattle.wire_model.specs.Dots.{at_last_dot, behind, or_else}
use Rattle.wire_model.specs.MethodOf.{method_of}
use Rattle.wire_model.specs.Outcome.{declared_as, method_like}

-- what stands before the first slash of a place, and what stands behind it
abbrev pub at_slash : Place → Option (List ℕ × List ℕ)
at_slash [] = None
at_slash (c ∷ rest) = if c == 47 then Some ([], rest) else behind c (at_slash rest)

-- a method, the number of its interface, and its position there
pub record Spot : Type 0 where
  pub interface : ℕ
  pub position : ℕ
  pub method : Method

-- the method at a position of an interface, where one was found
abbrev pub spot_at : List Decl → ℕ → Option ℕ → Option Spot
spot_at S i found =
    option_and_then (λ m. option_map (λ v. record { interface = i; position = m; method = v })
    (method_at (method_of S i m))) found

-- the method that a place `n.method` names
abbrev pub spot_of : List Decl → Place → Option Spot
spot_of S p = option_and_then (λ q. option_and_then (λ i.
    spot_at S i (position (λ v. same_text v.name.0 q.1) (methods_at S i))) (declared_as S q.0)) (at_last_dot p)

-- the method of B that has the names of a method v of the interface i of A
abbrev pub spot_like : List Decl → ℕ → Method → List Decl → Option Spot
spot_like A i v B =
    option_and_then (λ j. spot_at B j (method_like (Some v) (methods_at B j))) (declared_as B (descriptor A i))
