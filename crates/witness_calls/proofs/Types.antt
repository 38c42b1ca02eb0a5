-- What a valid schema gives of its methods.
use Rattle.std.proofs.Common.{◌≡◌, ℕ, zero, suc, ◌<◌, Bool, true, List, [], ◌∷◌, length, get_or, Option, Some, None, slice_get, refl, sym, ap, ◌∙◌}
use Rattle.std.specs.List.{list_all}
use Rattle.std.proofs.lemmas.Option.{slice_get_read}
use Rattle.aidl_base.proofs.lemmas.Tests.{both}
use Rattle.aidl_schema.specs.declared.schema.AidlType.{AidlType}
use Rattle.aidl_schema.specs.declared.schema.Arg.{Arg}
use Rattle.aidl_schema.specs.declared.schema.Decl.{Decl}
use Rattle.aidl_schema.specs.declared.schema.Method.{Method}
use Rattle.aidl_schema.specs.Find.{methods_of_decl}
use Rattle.aidl_schema.specs.Holds.{AllHold}
use Rattle.aidl_schema.specs.Methods.{has_method_types, is_passed_type, is_result_type, is_whole_type}
use Rattle.aidl_schema.specs.Names.{methods_of}
use Rattle.aidl_schema.specs.Types.{is_type}
use Rattle.wire_model.specs.Calls.{method_at}
use Rattle.wire_model.specs.MethodOf.{method_of}

all_at : {X : Type 0} (p : X → Bool) (xs : List X) (i : ℕ) (x : X) → list_all p xs ≡ true → slice_get xs i ≡ Some x → p x ≡ true
all_at p [] i x all at = cc
all_at p (y ∷ xs) zero x all at = let same : y ≡ x = cc in ap p (sym same) ∙ (both (p y) (list_all p xs) all).0
all_at p (y ∷ xs) (suc i) x all at = all_at p xs i x (both (p y) (list_all p xs) all).1 at

-- of a method
pub record IsTyped (S : List Decl) (w : Method) : Type 0 where
  pub passed : list_all (λ a. is_passed_type S a.ty) w.args ≡ true
  pub returned : is_result_type S w.result ≡ true

pub typed : (S : List Decl) → AllHold S → (i m : ℕ) (w : Method) → method_at (method_of S i m) ≡ Some w → IsTyped S w
typed S hold i m w e = by_decl (slice_get S i) refl e
  where
    in_decl : (d : Decl) → slice_get S i ≡ Some d → slice_get (methods_of d.kind) m ≡ Some w → IsTyped S w
    in_decl d at is =
        let parts = both (is_result_type S w.result) (list_all (λ a. is_passed_type S a.ty) w.args) (all_at (λ x. has_method_types S x) (methods_of d.kind) m w (hold i d at).method_types is) in
        record { passed = parts.1; returned = parts.0 }

    by_decl : (o : Option Decl) → slice_get S i ≡ o → slice_get (methods_of_decl o) m ≡ Some w → IsTyped S w
    by_decl None at is = cc
    by_decl (Some d) at is = in_decl d at is

-- a type that is passed is one of the schema
pub passed_is : (S : List Decl) (t : AidlType) → is_passed_type S t ≡ true → is_type S t ≡ true
passed_is S t e = (both (is_type S t) _ (both (is_whole_type S t) _ e).0).0

pub passed_at : (S : List Decl) (xs : List Arg) (k : ℕ) (a : Arg) → list_all (λ x. is_passed_type S x.ty) xs ≡ true → k < length xs → a ≡ get_or xs k a → is_type S a.ty ≡ true
passed_at S xs k a all lt is = passed_is S a.ty (all_at (λ x. is_passed_type S x.ty) xs k a all (slice_get_read xs (length xs) k a refl lt is))
