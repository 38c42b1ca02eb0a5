-- What a client makes of a reply that another schema spelled.
use Rattle.std.proofs.Common.{◌≡◌, ℕ, ◌≤◌, ℤ, pos, true, false, List, [], ◌++◌, length, Option, Some, None, slice_get, Result, Ok, refl, sym, ap, ◌∙◌, subst, arith, length-append}
use Rattle.std.proofs.lemmas.List.{append-nil}
use Rattle.std.specs.List.{position}
use Rattle.aidl_base.proofs.lemmas.Lists.{AreBytes, AreBytes-rest}
use Rattle.aidl_base.proofs.lemmas.Words.{word_again, fits_pos}
use Rattle.aidl_base.specs.declared.profile.Profile.{Profile}
use Rattle.aidl_base.specs.Readings.{Read, ◌>>=◌}
use Rattle.aidl_base.specs.Words.{word}
use Rattle.aidl_schema.proofs.lemmas.Sames.{same_text_sym}
use Rattle.aidl_schema.specs.declared.schema.AidlType.{AidlType}
use Rattle.aidl_schema.specs.declared.schema.Decl.{Decl}
use Rattle.aidl_schema.specs.declared.schema.Method.{Method}
use Rattle.aidl_schema.specs.Broken.{same_name, same_method}
use Rattle.aidl_schema.specs.Find.{methods_of_decl, methods_at}
use Rattle.aidl_schema.specs.Holds.{AllHold}
use Rattle.aidl_schema.specs.Names.{name_of, methods_of}
use Rattle.aidl_schema.specs.Same.{same_text}
use Rattle.aidl_values.specs.Data.{Data, Items}
use Rattle.aidl_values.specs.Sound.{IsSound}
use Rattle.wire_model.specs.Calls.{AnswerData, returned, exception, name_of_decl, descriptor, method_at, arguments_of, result_of, result_type, outs_of, out_types}
use Rattle.wire_model.specs.MethodOf.{method_of}
use Rattle.wire_model.specs.Outcome.{declared_as, method_like, view_values, view_result, seen_answer}
use Rattle.wire_model.specs.Receiver.{or_status, values_at, returned_at, client}
use Rattle.wire_model.specs.Requests.{spell_each, spell_result, EachFits, ResultFits, reply, AnswerFits, IsAnswer}
use Rattle.wire_model.specs.Status.{bad_value}
use Rattle.wire_model.specs.steps.CallsMeet.{CallsMeet}
use Rattle.wire_model.specs.steps.Meets.{Meets}
use Rattle.wire_model.proofs.lemmas.Lookups.{position_passes}
use Rattle.wire_model.proofs.calls.Exceptions.{then_status, then_whole, exception_got}
use Rattle.wire_model.proofs.calls.Types.{argument_types, result_is, outs_agree, results_agree}
use Rattle.wire_model.proofs.calls.Values.{TypesAgree, ResultsAgree, seen_at, values_seen, result_seen}

-- what follows a result, and the outs after it
abbrev then_result : Profile → List Decl → List AidlType → Read (Option Data) → Read AnswerData
then_result p S outs x = x >>= λ r. values_at p S outs r.1 >>= λ vs. Ok (returned r.0 vs.0, vs.1)

abbrev with_result : Option Data → Read Items → Read AnswerData
with_result r x = x >>= λ vs. Ok (returned r vs.0, vs.1)

-- the views of a result and of outs, as an answer
abbrev answer_seen : Option (Option Data) → Option Items → Result AnswerData ℤ
answer_seen r vs = or_status bad_value r >>= λ r. or_status bad_value vs >>= λ vs. Ok (returned r vs)

module _ (p : Profile) (A B : List Decl) (meets : Meets B A) (sound : IsSound A) where
  -- a returned answer, by types that agree
  module _ (t u : Option AidlType) (ts us : List AidlType) (results : ResultsAgree B t A u) (outs : TypesAgree B ts A us) (r : Option Data) (vs : Items)
      (r_fits : ResultFits B t r) (vs_fit : EachFits B ts vs) (small : length (spell_result B t r ++ spell_each B ts vs) ≤ 1048576)
      (bytes : AreBytes (spell_result B t r ++ spell_each B ts vs)) where
    abbrev rest : List ℕ
    rest = spell_each B ts vs

    outs_read : values_at p A us rest ≡ seen_at (view_values B ts A us vs) []
    outs_read =
        let nothing : rest ++ [] ≡ rest = append-nil rest in
        let sum = length-append (spell_result B t r) rest in
        ap (λ c. values_at p A us c) (sym nothing)
        ∙ values_seen p B A meets sound ts us vs [] outs vs_fit (omega arith) (subst AreBytes (sym nothing) (AreBytes-rest (spell_result B t r) rest bytes))

    by_views : (o : Option (Option Data)) (os : Option Items) → values_at p A us rest ≡ seen_at os [] → then_whole (then_result p A us (seen_at o rest)) ≡ answer_seen o os
    by_views None os read = refl
    by_views (Some r) None read = ap (λ x. then_whole (with_result r x)) read
    by_views (Some r) (Some ws) read = ap (λ x. then_whole (with_result r x)) read

    pub returned_seen : then_whole (returned_at p A u us (spell_result B t r ++ rest)) ≡ answer_seen (view_result B t A u r) (view_values B ts A us vs)
    unfolding returned_at
    returned_seen =
        let sum = length-append (spell_result B t r) rest in
        ap (λ x. then_whole (then_result p A us x)) (result_seen p B A meets sound t u r rest results r_fits (omega arith) bytes)
        ∙ by_views (view_result B t A u r) (view_values B ts A us vs) outs_read

  module _ (calls : CallsMeet B A) (holds : AllHold A) (i m j n : ℕ) where
    -- the method v of the interface d of A, and w of e of B
    module _ (d e : Decl) (here : slice_get A i ≡ Some d) (there : slice_get B j ≡ Some e) (named : same_name d e ≡ true)
        (v w : Method) (at : slice_get (methods_of d.kind) m ≡ Some v) (like : slice_get (methods_of e.kind) n ≡ Some w) (alike : same_method v w ≡ true) where
      mine : method_at (method_of A i m) ≡ Some v
      mine = ap (λ o. slice_get (methods_of_decl o) m) here ∙ at

      his : method_at (method_of B j n) ≡ Some w
      his = ap (λ o. slice_get (methods_of_decl o) n) there ∙ like

      abbrev Law : AnswerData → Type 0
      Law a = client p (method_of A i m) (reply (method_of B j n) a) ≡ seen_answer (method_of B j n) (method_of A i m) a

      pub by_answer : (a : AnswerData) → IsAnswer (method_of B j n) a → length (reply (method_of B j n) a) ≤ 1048576 → AreBytes (reply (method_of B j n) a) → Law a
      unfolding client
      by_answer (exception code message error) fits small bytes = exception_got p A i m B j n code message error fits small
      by_answer (returned r vs) fits small bytes =
          let agree = (calls e d (j, there) (i, here) (same_text_sym (name_of e) (name_of d) ∙ named)).common w v (n, like) (m, at) (same_text_sym w.name.0 v.name.0 ∙ alike) in
          let results = results_agree B A w.result v.result agree.result (result_is A holds d (i, here) v (m, at)) in
          let outs = outs_agree B A w.args v.args agree.arguments (argument_types A holds d (i, here) v (m, at)) in
          let results' = subst (λ o. ResultsAgree B (result_of o) A (result_type (method_of A i m))) (sym his) (subst (λ o. ResultsAgree B w.result A (result_of o)) (sym mine) results) in
          let outs' = subst (λ o. TypesAgree B (outs_of (arguments_of o)) A (out_types (method_of A i m))) (sym his) (subst (λ o. TypesAgree B (outs_of w.args) A (outs_of (arguments_of o))) (sym mine) outs) in
          let spelled = spell_result B (result_type (method_of B j n)) r ++ spell_each B (out_types (method_of B j n)) vs in
          ap (then_status p A i m) (word_again (pos 0) false spelled (fits_pos 0 (omega arith)))
          ∙ returned_seen (result_type (method_of B j n)) (result_type (method_of A i m)) (out_types (method_of B j n)) (out_types (method_of A i m)) results' outs' r vs fits.0 fits.1
          (omega (arith, length-append (word (pos 0)) spelled)) (AreBytes-rest (word (pos 0)) spelled bytes)

    -- The client of the method of the same name.
    pub reply_seen : (a : AnswerData) → AnswerFits (method_of B j n) a → AreBytes (reply (method_of B j n) a) → declared_as B (descriptor A i) ≡ Some j → method_like (method_at (method_of A i m)) (methods_at B j) ≡ Some n
        → client p (method_of A i m) (reply (method_of B j n) a) ≡ seen_answer (method_of B j n) (method_of A i m) a
    reply_seen a fits bytes found like =
        let e = position_passes (λ (x : Decl). same_text (descriptor A i) (name_of x)) B j found in
        by_decl e.0 e.1 e.2 (slice_get A i) refl
      where
        by_decl : (e : Decl) → slice_get B j ≡ Some e → same_text (descriptor A i) (name_of e) ≡ true → (o : Option Decl) → slice_get A i ≡ o
            → client p (method_of A i m) (reply (method_of B j n) a) ≡ seen_answer (method_of B j n) (method_of A i m) a
        by_decl e there named None here =
            let none : ◌≡◌ {A = Option ℕ} None (Some n) = sym (ap (λ o. method_like (slice_get (methods_of_decl o) m) (methods_at B j)) here) ∙ like in cc
        by_decl e there named (Some d) here = by_method (slice_get (methods_of d.kind) m) refl
          where
            by_method : (o : Option Method) → slice_get (methods_of d.kind) m ≡ o → client p (method_of A i m) (reply (method_of B j n) a) ≡ seen_answer (method_of B j n) (method_of A i m) a
            by_method None at =
                let none : ◌≡◌ {A = Option ℕ} None (Some n) =
                sym (ap (λ o. method_like o (methods_at B j)) (ap (λ o. slice_get (methods_of_decl o) m) here ∙ at)) ∙ like in cc
            by_method (Some v) at =
                let is : position (λ w. same_method v w) (methods_of e.kind) ≡ Some n =
                sym (ap (λ ws. method_like (method_at (method_of A i m)) ws) (ap methods_of_decl there)
                ∙ ap (λ o. method_like o (methods_of e.kind)) (ap (λ o. slice_get (methods_of_decl o) m) here ∙ at)) ∙ like in
                let w = position_passes (λ w. same_method v w) (methods_of e.kind) n is in
                let same_names : same_name d e ≡ true = subst (λ x. same_text x (name_of e) ≡ true) (ap name_of_decl here) named in
                by_answer d e here there same_names v w.0 at w.1 w.2 a fits.answer fits.small bytes
