-- What the methods of two schemas have in common where no evolution rule is broken from the one to the other.
use Rattle.std.specs.Prelude.{◌≡◌, true, false, List, [], ◌∷◌}
use Rattle.aidl_schema.specs.declared.schema.Arg.{Arg}
use Rattle.aidl_schema.specs.declared.schema.Decl.{Decl}
use Rattle.aidl_schema.specs.declared.schema.Method.{Method}
use Rattle.aidl_schema.specs.Broken.{same_name, same_method, same_result}
use Rattle.aidl_schema.specs.Names.{methods_of}
use Rattle.aidl_schema.specs.Same.{same}
use Rattle.aidl_schema.specs.Unbroken.{Has}

-- as many arguments, at each position of the same direction and of the same type
abbrev pub ArgumentsAgree : List Decl → List Arg → List Decl → List Arg → Type 0
ArgumentsAgree A [] B [] = Unit {0}
ArgumentsAgree A [] B (b ∷ ys) = ⊥
ArgumentsAgree A (a ∷ xs) B [] = ⊥
ArgumentsAgree A (a ∷ xs) B (b ∷ ys) = (a.way ≡ b.way) × (same A a.ty B b.ty ≡ true) × ArgumentsAgree A xs B ys

-- methods of one name
pub record MethodsAgree (A : List Decl) (v : Method) (B : List Decl) (w : Method) : Type 0 where
  pub id : v.id ≡ w.id
  pub arguments : ArgumentsAgree A v.args B w.args
  pub result : same_result A v.result B w.result ≡ true

-- Interfaces of one name: what a method of one name is in both; and the id of a method that the other lacks is
-- nobody's there.
pub record InterfacesAgree (A : List Decl) (d : Decl) (B : List Decl) (e : Decl) : Type 0 where
  pub common : (v w : Method) → Has (methods_of d.kind) v → Has (methods_of e.kind) w → same_method v w ≡ true
      → MethodsAgree A v B w
  pub lacking : (v w : Method) → Has (methods_of d.kind) v → Has (methods_of e.kind) w
      → ((x : Method) → Has (methods_of e.kind) x → same_method v x ≡ false) → v.id ≡ w.id → ⊥

abbrev pub CallsMeet : List Decl → List Decl → Type 0
CallsMeet A B = (d e : Decl) → Has A d → Has B e → same_name d e ≡ true → InterfacesAgree A d B e
