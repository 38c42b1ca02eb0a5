-- The types of arguments and results are types of the schema.
use Rattle.std.proofs.Common.{◌≡◌, ℕ, zero, suc, ◌<◌, Bool, true, false, not, ◌&&◌, ◌||◌, List, [], ◌∷◌, length, get_or, refl, arith}
use Rattle.std.specs.List.{list_all}
use Rattle.aidl_schema.specs.declared.schema.AidlType.{AidlType}
use Rattle.aidl_schema.specs.declared.schema.Arg.{Arg}
use Rattle.aidl_schema.specs.declared.schema.Decl.{Decl}
use Rattle.aidl_schema.specs.Constants.{is_string}
use Rattle.aidl_schema.specs.Methods.{is_in_way, is_passed_type, is_whole_type}
use Rattle.aidl_schema.specs.Types.{is_type}
use Rattle.wire_model.specs.Calls.{outs_of}

both : (a b : Bool) → (a && b) ≡ true → (a ≡ true) × (b ≡ true)
both true true e = (refl, refl)
both true false e = cc
both false b e = cc

pub is_type_of : (S : List Decl) (t : AidlType) → is_passed_type S t ≡ true → is_type S t ≡ true
is_type_of S t e = (both (is_type S t) (not t.utf8 || is_string t.base) (both (is_whole_type S t) (not t.heap) e).0).0

pub passes_at : {X : Type 0} (p : X → Bool) (xs : List X) (i : ℕ) (d : X) → i < length xs → list_all p xs ≡ true → p (get_or xs i d) ≡ true
passes_at p [] i d short all = absurd (omega arith)
passes_at p (y ∷ xs) zero d short all = (both (p y) (list_all p xs) all).0
passes_at p (y ∷ xs) (suc i) d short all = passes_at p xs i d (omega arith) (both (p y) (list_all p xs) all).1

one_more : (S : List Decl) (a : Arg) (xs : List Arg) (b : Bool) → is_in_way a.way ≡ b → is_passed_type S a.ty ≡ true → list_all (λ t. is_passed_type S t) (outs_of xs) ≡ true
    → list_all (λ t. is_passed_type S t) (outs_of (a ∷ xs)) ≡ true
one_more S a xs true e first rest = rw e rest
one_more S a xs false e first rest = rw (e, first) rest

-- the types of outs are types of arguments
pub passed_outs : (S : List Decl) (xs : List Arg) → list_all (λ a. is_passed_type S a.ty) xs ≡ true → list_all (λ t. is_passed_type S t) (outs_of xs) ≡ true
passed_outs S [] all = refl
passed_outs S (a ∷ xs) all =
    let parts = both (is_passed_type S a.ty) (list_all (λ b. is_passed_type S b.ty) xs) all in
    one_more S a xs (is_in_way a.way) refl parts.0 (passed_outs S xs parts.1)
