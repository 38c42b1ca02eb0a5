-- The types of a method of a valid schema are types of the schema.
use Rattle.std.proofs.Common.{◌≡◌, ℕ, Bool, true, false, not, ◌||◌, List, [], ◌∷◌, Option, Some, None, slice_get, refl}
use Rattle.std.specs.List.{list_all}
use Rattle.aidl_base.proofs.lemmas.Tests.{both, all_at}
use Rattle.aidl_schema.specs.declared.schema.AidlType.{AidlType}
use Rattle.aidl_schema.specs.declared.schema.Arg.{Arg}
use Rattle.aidl_schema.specs.declared.schema.Decl.{Decl}
use Rattle.aidl_schema.specs.declared.schema.Method.{Method}
use Rattle.aidl_schema.specs.Broken.{same_result}
use Rattle.aidl_schema.specs.Constants.{is_string}
use Rattle.aidl_schema.specs.Holds.{AllHold}
use Rattle.aidl_schema.specs.Methods.{is_in_way, is_passed_type, is_result_type, is_whole_type, has_method_types}
use Rattle.aidl_schema.specs.Names.{methods_of}
use Rattle.aidl_schema.specs.Types.{is_type}
use Rattle.aidl_schema.specs.Unbroken.{Has}
use Rattle.aidl_schema.specs.Find.{methods_of_decl}
use Rattle.wire_model.specs.Calls.{arguments_of, result_of, outs_of}
use Rattle.wire_model.specs.steps.CallsMeet.{ArgumentsAgree}
use Rattle.wire_model.proofs.calls.Arguments.{HaveTypes}
use Rattle.wire_model.proofs.calls.Values.{TypesAgree, ResultsAgree}

module _ (S : List Decl) where
  pub passed : (t : AidlType) → is_passed_type S t ≡ true → is_type S t ≡ true
  passed t h = (both (is_type S t) (not t.utf8 || is_string t.base) (both (is_whole_type S t) (not t.heap) h).0).0

  have_types : (xs : List Arg) → list_all (λ (a : Arg). is_passed_type S a.ty) xs ≡ true → HaveTypes S xs
  have_types [] h = tt
  have_types (a ∷ xs) h = let two = both (is_passed_type S a.ty) (list_all (λ (b : Arg). is_passed_type S b.ty) xs) h in (passed a.ty two.0, have_types xs two.1)

  module _ (hold : AllHold S) (d : Decl) (here : Has S d) (w : Method) (at : Has (methods_of d.kind) w) where
    method_types : has_method_types S w ≡ true
    method_types = all_at (λ m. has_method_types S m) (methods_of d.kind) at.0 w (hold here.0 d here.1).method_types at.1

    pub argument_types : HaveTypes S w.args
    argument_types = have_types w.args (both (is_result_type S w.result) (list_all (λ (a : Arg). is_passed_type S a.ty) w.args) method_types).1

    pub result_is : is_result_type S w.result ≡ true
    result_is = (both (is_result_type S w.result) (list_all (λ (a : Arg). is_passed_type S a.ty) w.args) method_types).0

module _ (S : List Decl) (holds : AllHold S) where
  -- the types of a method, where there is one
  pub method_typed : (i m : ℕ) (o : Option Decl) → slice_get S i ≡ o → (w : Option Method) → slice_get (methods_of_decl o) m ≡ w
      → HaveTypes S (arguments_of w) × (is_result_type S (result_of w) ≡ true)
  method_typed i m o here None at = (tt, refl)
  method_typed i m None here (Some w) at = cc
  method_typed i m (Some d) here (Some w) at = (argument_types S holds d (i, here) w (m, at), result_is S holds d (i, here) w (m, at))

-- outs of methods that take the same calls
pub outs_agree : (A B : List Decl) (xs ys : List Arg) → ArgumentsAgree A xs B ys → HaveTypes B ys → TypesAgree A (outs_of xs) B (outs_of ys)
outs_agree A B [] [] h types = tt
outs_agree A B [] (b ∷ ys) h types = elim h [ ]
outs_agree A B (a ∷ xs) [] h types = elim h [ ]
outs_agree A B (a ∷ xs) (b ∷ ys) h types = by_way (is_in_way a.way) refl (outs_agree A B xs ys h.2 types.1)
  where
    by_way : (in_way : Bool) → is_in_way a.way ≡ in_way → TypesAgree A (outs_of xs) B (outs_of ys) → TypesAgree A (outs_of (a ∷ xs)) B (outs_of (b ∷ ys))
    by_way true e later = let his : is_in_way b.way ≡ true = rw h.0 at e in rw (e, his) later
    by_way false e later = let his : is_in_way b.way ≡ false = rw h.0 at e in rw (e, his) (h.1, types.0, later)

-- and their results
pub results_agree : (A B : List Decl) (t u : Option AidlType) → same_result A t B u ≡ true → is_result_type B u ≡ true → ResultsAgree A t B u
results_agree A B None None h type = tt
results_agree A B None (Some u) h type = cc
results_agree A B (Some t) None h type = cc
results_agree A B (Some t) (Some u) h type = (h, passed B u type)
