-- A method of a schema, as calls speak of it (own).
use Rattle.std.specs.Prelude.{ℕ, List, refl}
use Rattle.std.specs.Coded.{Coded, code_by, coded×, coded_list, coded_ℕ}
use Rattle.aidl_schema.specs.declared.schema.Decl.{Decl}

-- a method: the schema's declarations, the number of its interface, and its position there
pub record MethodOf : Type 0 where
  pub declarations : List Decl
  pub interface : ℕ
  pub method : ℕ

-- the same of its parts
abbrev pub method_of : List Decl → ℕ → ℕ → MethodOf
method_of S i m = record { declarations = S; interface = i; method = m }

-- stored as the tuple of its fields
abbrev pub method_code : Coded Decl → Coded MethodOf
method_code decl = code_by (List Decl × (ℕ × ℕ)) (coded× (coded_list decl) (coded× coded_ℕ coded_ℕ))
    (λ m. (m.declarations, (m.interface, m.method))) (λ q. method_of q.0 q.1.0 q.1.1) (λ _. refl)
