-- The arguments and results of the methods of a schema, in order (own).
use Rattle.std.specs.Prelude.{ℕ, suc, List, [], ◌∷◌, ◌++◌, Option, Some, None}
use Rattle.aidl_schema.specs.declared.schema.AidlType.{AidlType}
use Rattle.aidl_schema.specs.declared.schema.Arg.{Arg}
use Rattle.aidl_schema.specs.declared.schema.Decl.{Decl}
use Rattle.aidl_schema.specs.declared.schema.Method.{Method}
use Rattle.aidl_schema.specs.Names.{methods_of}

-- an argument of a method, by its position, or its result, with None, and the type
pub record Slot : Type 0 where
  pub interface : ℕ
  pub method : ℕ
  pub place : Option ℕ
  pub ty : AidlType

-- the arguments of method m of interface n, from position k on
abbrev pub argument_slots : ℕ → ℕ → ℕ → List Arg → List Slot
argument_slots n m k [] = []
argument_slots n m k (a ∷ rest) =
    record { interface = n; method = m; place = Some k; ty = a.ty } ∷ argument_slots n m (suc k) rest

-- a result that isn't void
abbrev pub result_slots : ℕ → ℕ → Option AidlType → List Slot
result_slots n m None = []
result_slots n m (Some t) = record { interface = n; method = m; place = None; ty = t } ∷ []

-- the methods of interface n, from number m on: of each its arguments, and then its result
abbrev pub method_slots : ℕ → ℕ → List Method → List Slot
method_slots n m [] = []
method_slots n m (w ∷ ws) = (argument_slots n m 0 w.args ++ result_slots n m w.result) ++ method_slots n (suc m) ws

-- the declarations from number n on
abbrev pub slots_from : ℕ → List Decl → List Slot
slots_from n [] = []
slots_from n (d ∷ ds) = method_slots n 0 (methods_of d.kind) ++ slots_from (suc n) ds

-- all of a schema
abbrev pub slots : List Decl → List Slot
slots S = slots_from 0 S
