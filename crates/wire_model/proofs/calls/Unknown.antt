-- Values of a call have no view exactly where one has an unknown tag: `law_call_none`.
use Rattle.std.proofs.Common.{◌≡◌, ℕ, Bool, true, false, ◌||◌, List, [], ◌∷◌, Option, Some, None, slice_get, refl, sym, ap, ◌∙◌, subst}
use Rattle.std.specs.Prelude.{is_none}
use Rattle.std.specs.List.{position}
use Rattle.aidl_schema.proofs.lemmas.Sames.{same_text_sym}
use Rattle.aidl_schema.specs.declared.schema.AidlType.{AidlType}
use Rattle.aidl_schema.specs.declared.schema.Arg.{Arg}
use Rattle.aidl_schema.specs.declared.schema.Decl.{Decl}
use Rattle.aidl_schema.specs.declared.schema.Method.{Method}
use Rattle.aidl_schema.specs.Broken.{same_method, same_name}
use Rattle.aidl_schema.specs.Find.{methods_at, methods_of_decl}
use Rattle.aidl_schema.specs.Holds.{AllHold}
use Rattle.aidl_schema.specs.Names.{methods_of, name_of}
use Rattle.aidl_schema.specs.Same.{same, same_text}
use Rattle.aidl_values.specs.Data.{Data, Items, none, item}
use Rattle.wire_model.proofs.calls.Types.{argument_types, outs_agree, result_is, results_agree}
use Rattle.wire_model.proofs.calls.Values.{ResultsAgree, TypesAgree}
use Rattle.wire_model.proofs.lemmas.Lookups.{position_passes}
use Rattle.wire_model.proofs.viewed.Unknown.{none_first, none_mapped, view_none}
use Rattle.wire_model.specs.Calls.{arguments, arguments_of, descriptor, is_out, method_at, name_of_decl, out_types, outs_of, result_of, result_type}
use Rattle.wire_model.specs.MethodOf.{method_of}
use Rattle.wire_model.specs.Outcome.{declared_as, method_like, view_argument, view_arguments, view_result, view_values}
use Rattle.wire_model.specs.Requests.{ArgumentFits, ArgumentsFit, EachFits, ResultFits}
use Rattle.wire_model.specs.Unknown.{argument_has_unknown_tag, arguments_have_unknown_tag, has_unknown_tag, result_has_unknown_tag, values_have_unknown_tag}
use Rattle.wire_model.specs.View.{view_of}
use Rattle.wire_model.specs.steps.CallsMeet.{ArgumentsAgree, CallsMeet}
use Rattle.wire_model.specs.steps.Meets.{Meets}

module _ (A B : List Decl) (meets : Meets A B) where
  argument_none : (a b : Arg) (v : Data) → same A a.ty B b.ty ≡ true → ArgumentFits A a v → is_none (view_argument A a B b v) ≡ argument_has_unknown_tag A a B b v
  argument_none a b v is fits = by_way (is_out a.way) refl
    where
      by_way : (out : Bool) → is_out a.way ≡ out → is_none (view_argument A a B b v) ≡ argument_has_unknown_tag A a B b v
      by_way true e = rw e refl
      by_way false e = let typed = rw e at fits in rw e (view_none A B meets a.ty b.ty v is typed.typed)

  pub arguments_none : (xs ys : List Arg) (vs : Items) → ArgumentsAgree A xs B ys → ArgumentsFit A xs vs → is_none (view_arguments A xs B ys vs) ≡ arguments_have_unknown_tag A xs B ys vs
  arguments_none [] ys vs agree fits = refl
  arguments_none (a ∷ xs) [] vs agree fits = refl
  arguments_none (a ∷ xs) (b ∷ ys) none agree fits = refl
  arguments_none (a ∷ xs) (b ∷ ys) (item v vs) agree fits =
      none_first (view_argument A a B b v) (view_arguments A xs B ys vs)
      ∙ ap (λ b. b || is_none (view_arguments A xs B ys vs)) (argument_none a b v agree.1 fits.0)
      ∙ ap (λ c. argument_has_unknown_tag A a B b v || c) (arguments_none xs ys vs agree.2 fits.1)

  pub values_none : (ts us : List AidlType) (vs : Items) → TypesAgree A ts B us → EachFits A ts vs → is_none (view_values A ts B us vs) ≡ values_have_unknown_tag A ts B us vs
  values_none [] us vs agree fits = refl
  values_none (t ∷ ts) [] vs agree fits = refl
  values_none (t ∷ ts) (u ∷ us) none agree fits = refl
  values_none (t ∷ ts) (u ∷ us) (item v vs) agree fits =
      none_first (view_of A t B u v) (view_values A ts B us vs)
      ∙ ap (λ b. b || is_none (view_values A ts B us vs)) (view_none A B meets t u v agree.0 fits.0.typed)
      ∙ ap (λ c. has_unknown_tag A t B u v || c) (values_none ts us vs agree.2 fits.1)

  pub result_none : (t u : Option AidlType) (r : Option Data) → ResultsAgree A t B u → ResultFits A t r → is_none (view_result A t B u r) ≡ result_has_unknown_tag A t B u r
  result_none None u r agree fits = refl
  result_none (Some t) None r agree fits = refl
  result_none (Some t) (Some u) None agree fits = refl
  result_none (Some t) (Some u) (Some v) agree fits = none_mapped (λ w. let x : Option Data = Some w in x) (view_of A t B u v) ∙ view_none A B meets t u v agree.0 fits.typed

-- The method m of the client's interface i and the method n of the server's interface j, which have one name.
pub record MethodsMeet (A B : List Decl) (i m j n : ℕ) : Type 0 where
  pub sent : ArgumentsAgree A (arguments (method_of A i m)) B (arguments (method_of B j n))
  pub result : ResultsAgree B (result_type (method_of B j n)) A (result_type (method_of A i m))
  pub outs : TypesAgree B (out_types (method_of B j n)) A (out_types (method_of A i m))

module _ (A B : List Decl) (calls : CallsMeet A B) (back : CallsMeet B A) (holds : AllHold A) (i m j n : ℕ) where
  module _ (d e : Decl) (here : slice_get A i ≡ Some d) (there : slice_get B j ≡ Some e) (named : same_name d e ≡ true)
      (v w : Method) (at : slice_get (methods_of d.kind) m ≡ Some v) (like : slice_get (methods_of e.kind) n ≡ Some w) (alike : same_method v w ≡ true) where
    mine : method_at (method_of A i m) ≡ Some v
    mine = ap (λ o. slice_get (methods_of_decl o) m) here ∙ at

    his : method_at (method_of B j n) ≡ Some w
    his = ap (λ o. slice_get (methods_of_decl o) n) there ∙ like

    methods_meet : MethodsMeet A B i m j n
    methods_meet =
        let sent = (calls d e (i, here) (j, there) named).common v w (m, at) (n, like) alike in
        let agree = (back e d (j, there) (i, here) (same_text_sym (name_of e) (name_of d) ∙ named)).common w v (n, like) (m, at) (same_text_sym w.name.0 v.name.0 ∙ alike) in
        let results = results_agree B A w.result v.result agree.result (result_is A holds d (i, here) v (m, at)) in
        let outs = outs_agree B A w.args v.args agree.arguments (argument_types A holds d (i, here) v (m, at)) in
        record {
          sent = subst (λ o. ArgumentsAgree A (arguments (method_of A i m)) B (arguments_of o)) (sym his) (subst (λ o. ArgumentsAgree A (arguments_of o) B w.args) (sym mine) sent.arguments);
          result = subst (λ o. ResultsAgree B (result_of o) A (result_type (method_of A i m))) (sym his) (subst (λ o. ResultsAgree B w.result A (result_of o)) (sym mine) results);
          outs = subst (λ o. TypesAgree B (outs_of (arguments_of o)) A (out_types (method_of A i m))) (sym his) (subst (λ o. TypesAgree B (outs_of w.args) A (outs_of (arguments_of o))) (sym mine) outs);
        }

  pub meeting : declared_as B (descriptor A i) ≡ Some j → method_like (method_at (method_of A i m)) (methods_at B j) ≡ Some n → MethodsMeet A B i m j n
  meeting found like =
      let e = position_passes (λ (x : Decl). same_text (descriptor A i) (name_of x)) B j found in
      by_decl e.0 e.1 e.2 (slice_get A i) refl
    where
      by_decl : (e : Decl) → slice_get B j ≡ Some e → same_text (descriptor A i) (name_of e) ≡ true → (o : Option Decl) → slice_get A i ≡ o → MethodsMeet A B i m j n
      by_decl e there named None here =
          let none : ◌≡◌ {A = Option ℕ} None (Some n) = sym (ap (λ o. method_like (slice_get (methods_of_decl o) m) (methods_at B j)) here) ∙ like in absurd cc
      by_decl e there named (Some d) here = by_method (slice_get (methods_of d.kind) m) refl
        where
          by_method : (o : Option Method) → slice_get (methods_of d.kind) m ≡ o → MethodsMeet A B i m j n
          by_method None at =
              let none : ◌≡◌ {A = Option ℕ} None (Some n) =
              sym (ap (λ o. method_like o (methods_at B j)) (ap (λ o. slice_get (methods_of_decl o) m) here ∙ at)) ∙ like in absurd cc
          by_method (Some v) at =
              let is : position (λ w. same_method v w) (methods_of e.kind) ≡ Some n =
              sym (ap (λ ws. method_like (method_at (method_of A i m)) ws) (ap methods_of_decl there)
              ∙ ap (λ o. method_like o (methods_of e.kind)) (ap (λ o. slice_get (methods_of_decl o) m) here ∙ at)) ∙ like in
              let w = position_passes (λ w. same_method v w) (methods_of e.kind) n is in
              let same_names : same_name d e ≡ true = subst (λ x. same_text x (name_of e) ≡ true) (ap name_of_decl here) named in
              methods_meet d e here there same_names v w.0 at w.1 w.2
