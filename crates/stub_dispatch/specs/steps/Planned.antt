-- What contracts see of types and arguments with their plans.
use Rattle.std.specs.Prelude.{◌≡◌, List, [], ◌∷◌, Option, Some, None, refl}
use Rattle.std.specs.Coded.{Coded, code_by, coded×, coded_list}
use Rattle.aidl_schema.specs.declared.schema.AidlType.{AidlType}
use Rattle.aidl_schema.specs.declared.schema.Arg.{Arg}
use Rattle.aidl_schema.specs.declared.schema.Decl.{Decl}

-- a type, and the schema's declarations
pub record TypeOf : Type 0 where
  pub decls : List Decl
  pub ty : AidlType

abbrev pub type_code : Coded Decl → Coded AidlType → Coded TypeOf
type_code decl ty = code_by (List Decl × AidlType) (coded× (coded_list decl) ty) (λ t. (t.decls, t.ty))
    (λ q. record { decls = q.0; ty = q.1 }) (λ _. refl)

-- an argument, and the schema's declarations
pub record ArgumentOf : Type 0 where
  pub decls : List Decl
  pub arg : Arg

abbrev pub argument_code : Coded Decl → Coded Arg → Coded ArgumentOf
argument_code decl arg = code_by (List Decl × Arg) (coded× (coded_list decl) arg) (λ a. (a.decls, a.arg))
    (λ q. record { decls = q.0; arg = q.1 }) (λ _. refl)

-- arguments, and the schema's declarations
pub record ArgumentsOf : Type 0 where
  pub decls : List Decl
  pub args : List Arg

abbrev pub arguments_code : Coded Decl → Coded Arg → Coded ArgumentsOf
arguments_code decl arg = code_by (List Decl × List Arg) (coded× (coded_list decl) (coded_list arg))
    (λ a. (a.decls, a.args)) (λ q. record { decls = q.0; args = q.1 }) (λ _. refl)

-- The first of the arguments and the others are these, or there is none.
abbrev pub BeginsWith : ArgumentsOf → Option (ArgumentOf × ArgumentsOf) → Type 0
BeginsWith xs None = xs.args ≡ []
BeginsWith xs (Some parts) = (xs.args ≡ parts.0.arg ∷ parts.1.args) × (parts.0.decls ≡ xs.decls)
    × (parts.1.decls ≡ xs.decls)
