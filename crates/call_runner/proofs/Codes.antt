-- The transaction code of a method.
use Rattle.std.proofs.Common.{◌≡◌, ℕ, ◌+◌, ◌≤◌, List, Option, Some, None, option_map, slice_get, refl, ap, subst}
use Rattle.aidl_schema.specs.declared.schema.Decl.{Decl}
use Rattle.aidl_schema.specs.declared.schema.Method.{Method}
use Rattle.aidl_schema.specs.Find.{methods_of_decl}
use Rattle.aidl_schema.specs.Holds.{AllHold}
use Rattle.wire_model.specs.Calls.{code_at, code_of, method_at}
use Rattle.wire_model.specs.MethodOf.{method_of}

pub small_id : (S : List Decl) → AllHold S → (i m id : ℕ) → option_map (λ w. w.id) (method_at (method_of S i m)) ≡ Some id → id ≤ 16777114
small_id S holds i m id e = by_decl (slice_get S i) refl e
  where
    by_method : (d : Decl) → slice_get S i ≡ Some d → (o : Option Method) → slice_get (methods_of_decl (Some d)) m ≡ o → option_map (λ w. w.id) o ≡ Some id → id ≤ 16777114
    by_method d at None is e = cc
    by_method d at (Some w) is e = let same : w.id ≡ id = cc in subst (λ k. k ≤ 16777114) same ((holds i d at).small_ids m w is)

    by_decl : (o : Option Decl) → slice_get S i ≡ o → option_map (λ w. w.id) (slice_get (methods_of_decl o) m) ≡ Some id → id ≤ 16777114
    by_decl None at e = cc
    by_decl (Some d) at e = by_method d at (slice_get (methods_of_decl (Some d)) m) refl e

pub code_is : (S : List Decl) (i m id : ℕ) → option_map (λ w. w.id) (method_at (method_of S i m)) ≡ Some id → id + 1 ≡ code_at (method_of S i m)
code_is S i m id e = by_method (method_at (method_of S i m)) e
  where
    by_method : (o : Option Method) → option_map (λ w. w.id) o ≡ Some id → id + 1 ≡ code_of o
    by_method None e = cc
    by_method (Some w) e = let same : id ≡ w.id = cc in ap (λ k. k + 1) same

pub code_none : (S : List Decl) (i m : ℕ) → option_map (λ w. w.id) (method_at (method_of S i m)) ≡ None → 0 ≡ code_at (method_of S i m)
code_none S i m e = by_method (method_at (method_of S i m)) e
  where
    by_method : (o : Option Method) → option_map (λ w. w.id) o ≡ None → 0 ≡ code_of o
    by_method None e = refl
    by_method (Some w) e = cc
