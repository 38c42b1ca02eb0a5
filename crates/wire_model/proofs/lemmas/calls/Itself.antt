-- Within one schema a request is called with what was sent, and a reply is got as it was answered.
use Rattle.std.proofs.Common.{◌≡◌, ℕ, ◌<◌, Bool, true, false, List, [], ◌∷◌, length, Option, Some, None, option_map, slice_get, Ok, refl, sym, ap, ◌∙◌, subst, arith, cond, zero, suc}
use Rattle.aidl_schema.proofs.lemmas.Sames.{same_text_refl, same_text_is}
use Rattle.aidl_schema.specs.declared.schema.AidlType.{AidlType}
use Rattle.aidl_schema.specs.declared.schema.Arg.{Arg}
use Rattle.aidl_schema.specs.declared.schema.Decl.{Decl}
use Rattle.aidl_schema.specs.declared.schema.Method.{Method}
use Rattle.aidl_schema.specs.Broken.{same_method}
use Rattle.aidl_schema.specs.Find.{methods_of_decl, methods_at}
use Rattle.aidl_schema.specs.Holds.{AreApart, AllHold}
use Rattle.aidl_schema.specs.Names.{name_of, methods_of}
use Rattle.aidl_schema.specs.Same.{same, same_text}
use Rattle.aidl_schema.specs.Types.{is_type}
use Rattle.aidl_values.specs.Data.{Data, Items, none, item}
use Rattle.aidl_values.specs.Fits.{Fits}
use Rattle.wire_model.specs.Calls.{AnswerData, returned, exception, name_of_decl, descriptor, method_at, arguments_of, arguments, result_of, result_type, outs_of, out_types, is_out}
use Rattle.wire_model.specs.MethodOf.{method_of}
use Rattle.wire_model.specs.Outcome.{declared_as, method_like, view_argument, view_arguments, seen_call, received_call, view_values, view_result, seen_answer}
use Rattle.wire_model.specs.Receiver.{called, opening, opened_arguments}
use Rattle.wire_model.specs.Requests.{sent_length, ArgumentFits, ArgumentsFit, EachFits, ResultFits, IsAnswer}
use Rattle.wire_model.specs.View.{item_first}
use Rattle.wire_model.specs.steps.CallsMeet.{CallsMeet}
use Rattle.wire_model.specs.steps.Meets.{Meets}
use Rattle.wire_model.proofs.lemmas.Lookups.{position_is}
use Rattle.wire_model.proofs.calls.Arguments.{HaveTypes}
use Rattle.wire_model.proofs.calls.Types.{argument_types, result_is, outs_agree, results_agree}
use Rattle.wire_model.proofs.calls.Values.{TypesAgree, ResultsAgree}
use Rattle.wire_model.proofs.viewed.Same.{view_same}

there : {X : Type 0} (xs : List X) (k : ℕ) → k < length xs → (x : X) × (slice_get xs k ≡ Some x)
there [] k lt = absurd (omega arith)
there (x ∷ xs) zero lt = (x, refl)
there (x ∷ xs) (suc k) lt = there xs k (omega arith)

-- a number below that of the methods is that of a method v of an interface d
pub method_there : (S : List Decl) (i m : ℕ) → m < length (methods_at S i) → (d : Decl) × (slice_get S i ≡ Some d) × (v : Method) × (slice_get (methods_of d.kind) m ≡ Some v)
method_there S i m lt = by_decl (slice_get S i) refl lt
  where
    by_decl : (o : Option Decl) → slice_get S i ≡ o → m < length (methods_of_decl o) → (d : Decl) × (slice_get S i ≡ Some d) × (v : Method) × (slice_get (methods_of d.kind) m ≡ Some v)
    by_decl None e lt = absurd (omega arith)
    by_decl (Some d) e lt = let v = there (methods_of d.kind) m lt in (d, e, v.0, v.1)

module _ (S : List Decl) (meets : Meets S S) (calls : CallsMeet S S) (itself : (t : AidlType) → is_type S t ≡ true → same S t S t ≡ true) (holds : AllHold S) (apart : AreApart name_of S) where
  argument_same : (a : Arg) (v : Data) → is_type S a.ty ≡ true → ArgumentFits S a v → (out : Bool) → is_out a.way ≡ out
      → view_argument S a S a v ≡ Some (cond (is_out a.way) (opening S a.ty (sent_length v)) v)
  argument_same a v type fits true out = rw out refl
  argument_same a v type fits false out = let fit : Fits S a.ty v = rw out at fits in rw out (view_same S meets a.ty v (itself a.ty type) fit.typed)

  arguments_same : (xs : List Arg) (vs : Items) → HaveTypes S xs → ArgumentsFit S xs vs → view_arguments S xs S xs vs ≡ Some (opened_arguments S xs vs)
  arguments_same [] none types fits = refl
  arguments_same [] (item v vs) types fits = elim fits [ ]
  arguments_same (a ∷ xs) none types fits = elim fits [ ]
  arguments_same (a ∷ xs) (item v vs) types fits =
      ap (λ o. item_first o (view_arguments S xs S xs vs)) (argument_same a v types.0 fits.0 (is_out a.way) refl)
      ∙ ap (λ os. item_first (Some (cond (is_out a.way) (opening S a.ty (sent_length v)) v)) os) (arguments_same xs vs types.1 fits.1)

  values_same : (ts : List AidlType) (vs : Items) → TypesAgree S ts S ts → EachFits S ts vs → view_values S ts S ts vs ≡ Some vs
  values_same [] none types fits = refl
  values_same [] (item v vs) types fits = elim fits [ ]
  values_same (t ∷ ts) none types fits = elim fits [ ]
  values_same (t ∷ ts) (item v vs) types fits =
      ap (λ o. item_first o (view_values S ts S ts vs)) (view_same S meets t v types.0 fits.0.typed) ∙ ap (λ os. item_first (Some v) os) (values_same ts vs types.2 fits.1)

  result_same : (t : Option AidlType) (r : Option Data) → ResultsAgree S t S t → ResultFits S t r → view_result S t S t r ≡ Some r
  result_same None None types fits = refl
  result_same None (Some v) types fits = elim fits [ ]
  result_same (Some t) None types fits = elim fits [ ]
  result_same (Some t) (Some v) types fits = ap (option_map (λ w. let x : Option Data = Some w in x)) (view_same S meets t v types.0 fits.typed)

  -- the method v of the interface d
  module _ (i m : ℕ) (d : Decl) (here : slice_get S i ≡ Some d) (v : Method) (at : slice_get (methods_of d.kind) m ≡ Some v) where
    mine : method_at (method_of S i m) ≡ Some v
    mine = ap (λ o. slice_get (methods_of_decl o) m) here ∙ at

    pub declared_itself : declared_as S (descriptor S i) ≡ Some i
    declared_itself = ap (λ o. declared_as S (name_of_decl o)) here
        ∙ position_is (λ e. same_text (name_of d) (name_of e)) S i d here (same_text_refl (name_of d)) (λ k e p is. apart k i e d p here (sym (same_text_is (name_of d) (name_of e) is)))

    pub like_itself : method_like (method_at (method_of S i m)) (methods_at S i) ≡ Some m
    like_itself = ap (λ ws. method_like (method_at (method_of S i m)) ws) (ap methods_of_decl here) ∙ ap (λ o. method_like o (methods_of d.kind)) mine
        ∙ position_is (λ w. same_method v w) (methods_of d.kind) m v at (same_text_refl v.name.0)
        (λ k w p is. (holds i d here).methods k m w v p at (sym (same_text_is v.name.0 w.name.0 is)))

    types : HaveTypes S (arguments (method_of S i m))
    types = subst (λ o. HaveTypes S (arguments_of o)) (sym mine) (argument_types S holds d (i, here) v (m, at))

    pub called_itself : (args : Items) → ArgumentsFit S (arguments (method_of S i m)) args → received_call (method_of S i m) S i args ≡ Ok (called m (opened_arguments S (arguments (method_of S i m)) args))
    unfolding seen_call
    called_itself args fits = rw (like_itself, arguments_same (arguments (method_of S i m)) args types fits) refl

    pub got_itself : (a : AnswerData) → IsAnswer (method_of S i m) a → seen_answer (method_of S i m) (method_of S i m) a ≡ Ok a
    got_itself (exception code message error) fits = refl
    got_itself (returned r vs) fits =
        let agree = (calls d d (i, here) (i, here) (same_text_refl (name_of d))).common v v (m, at) (m, at) (same_text_refl v.name.0) in
        let results = results_agree S S v.result v.result agree.result (result_is S holds d (i, here) v (m, at)) in
        let outs = outs_agree S S v.args v.args agree.arguments (argument_types S holds d (i, here) v (m, at)) in
        let results' : ResultsAgree S (result_type (method_of S i m)) S (result_type (method_of S i m)) = subst (λ o. ResultsAgree S (result_of o) S (result_of o)) (sym mine) results in
        let outs' : TypesAgree S (out_types (method_of S i m)) S (out_types (method_of S i m)) = subst (λ o. TypesAgree S (outs_of (arguments_of o)) S (outs_of (arguments_of o))) (sym mine) outs in
        rw (result_same (result_type (method_of S i m)) r results' fits.0, values_same (out_types (method_of S i m)) vs outs' fits.1) refl
