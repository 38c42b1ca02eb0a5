-- The types of a method of a valid schema.
use Rattle.std.proofs.Common.{◌≡◌, ℕ, zero, suc, Bool, true, false, ◌&&◌, List, [], ◌∷◌, Option, Some, None, slice_get, refl, sym, ap, ◌∙◌, subst}
use Rattle.std.specs.List.{list_all}
use Rattle.aidl_schema.specs.declared.schema.Arg.{Arg}
use Rattle.aidl_schema.specs.declared.schema.Decl.{Decl}
use Rattle.aidl_schema.specs.declared.schema.Method.{Method}
use Rattle.aidl_schema.specs.Find.{methods_at, methods_of_decl}
use Rattle.aidl_schema.specs.Holds.{AllHold}
use Rattle.aidl_schema.specs.Methods.{has_method_types, is_in_way, is_passed_type, is_result_type}
use Rattle.aidl_schema.specs.Names.{methods_of}
use Rattle.aidl_values.specs.Data.{none}
use Rattle.wire_model.specs.Calls.{arguments_of, is_oneway_of, outs_of, result_of}
use Rattle.wire_model.specs.Requests.{EachFits, ResultFits}

both : (a b : Bool) → (a && b) ≡ true → (a ≡ true) × (b ≡ true)
both true true e = (refl, refl)
both true false e = cc
both false b e = cc

all_at : {X : Type 0} (p : X → Bool) (xs : List X) (i : ℕ) (x : X) → list_all p xs ≡ true → slice_get xs i ≡ Some x → p x ≡ true
all_at p [] i x all at = cc
all_at p (y ∷ xs) zero x all at = let same : y ≡ x = cc in ap p (sym same) ∙ (both (p y) (list_all p xs) all).0
all_at p (y ∷ xs) (suc i) x all at = all_at p xs i x (both (p y) (list_all p xs) all).1 at

no_outs : (xs : List Arg) → list_all (λ a. is_in_way a.way) xs ≡ true → outs_of xs ≡ []
no_outs [] all = refl
no_outs (a ∷ xs) all = let parts = both (is_in_way a.way) (list_all (λ b. is_in_way b.way) xs) all in let first = parts.0 in rw first (no_outs xs parts.1)

-- of a method, or of none
pub record Typed (S : List Decl) (o : Option Method) : Type 0 where
  pub returned : is_result_type S (result_of o) ≡ true
  pub passed : list_all (λ a. is_passed_type S a.ty) (arguments_of o) ≡ true
  pub oneway : is_oneway_of o ≡ true → ResultFits S (result_of o) None × EachFits S (outs_of (arguments_of o)) none

typed_none : (S : List Decl) → Typed S None
typed_none S = record { returned = refl; passed = refl; oneway = λ e. cc }

one_way : (S : List Decl) (w : Method) → (w.result ≡ None) × (list_all (λ a. is_in_way a.way) w.args ≡ true) → ResultFits S w.result None × EachFits S (outs_of w.args) none
one_way S w h = (subst (λ t. ResultFits S t None) (sym h.0) tt, subst (λ ts. EachFits S ts none) (sym (no_outs w.args h.1)) tt)

in_decl : (S : List Decl) → AllHold S → (i m : ℕ) (d : Decl) → slice_get S i ≡ Some d → (o : Option Method) → slice_get (methods_of d.kind) m ≡ o → Typed S o
in_decl S hold i m d at None is = typed_none S
in_decl S hold i m d at (Some w) is =
    let parts = both (is_result_type S w.result) (list_all (λ a. is_passed_type S a.ty) w.args) (all_at (λ x. has_method_types S x) (methods_of d.kind) m w (hold i d at).method_types is) in
    record { returned = parts.0; passed = parts.1; oneway = λ e. one_way S w ((hold i d at).oneway m w is e) }

in_schema : (S : List Decl) → AllHold S → (i m : ℕ) (o : Option Decl) → slice_get S i ≡ o → Typed S (slice_get (methods_of_decl o) m)
in_schema S hold i m None at = typed_none S
in_schema S hold i m (Some d) at = in_decl S hold i m d at (slice_get (methods_of d.kind) m) refl

pub typed : (S : List Decl) → AllHold S → (i m : ℕ) → Typed S (slice_get (methods_at S i) m)
typed S hold i m = in_schema S hold i m (slice_get S i) refl
