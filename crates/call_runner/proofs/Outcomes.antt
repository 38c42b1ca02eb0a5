-- Over a link that delivers what was sent a call comes to its outcome.
use Rattle.std.proofs.Common.{◌≡◌, ℕ, ◌<◌, length, ◌==◌, Bool, true, false, cond, List, [], Option, Some, None, option_map, slice_get, Result, Ok, Err, ℤ, refl, sym, ap, ◌∙◌, subst, arith}
use Rattle.std.specs.Prelude.{if◌then◌else◌}
use Rattle.std.specs.Str.{encode_utf8_all}
use Rattle.std.proofs.lemmas.Bool.Decides.{nat_tests}
use Rattle.aidl_base.specs.declared.profile.Profile.{Profile}
use Rattle.aidl_schema.specs.declared.schema.Decl.{Decl}
use Rattle.aidl_schema.specs.declared.schema.Kind.{Kind}
use Rattle.aidl_schema.specs.declared.schema.Kind.TheVariants.{Interface, Parcelable, Union, Enum}
use Rattle.aidl_schema.specs.declared.schema.Method.{Method}
use Rattle.aidl_schema.specs.Find.{interface_named, is_interface, is_interface_kind, methods_at, methods_of_decl, number_of_name}
use Rattle.aidl_schema.specs.Names.{methods_of}
use Rattle.aidl_values.specs.Data.{Items}
use Rattle.stub_dispatch.specs.Sent.{sent_reply}
use Rattle.call_runner.specs.Lines.{call_code, line_of, received_at, reply_at, reply_sent, reported, scripted}
use Rattle.call_runner.specs.Lines as lines
use Rattle.call_runner.specs.Runs.{IsReplied, NamesOf, answer_by, methods_by, projected, seen_line, within_one}
use Rattle.call_scripts.specs.Calls.{CallData, CallFits, TargetData, TargetFits, method_of_server, callee}
use Rattle.wire_model.specs.Calls.{AnswerData, descriptor, is_oneway, method_at}
use Rattle.wire_model.specs.MethodOf.{method_of}
use Rattle.wire_model.specs.Outcome.{Done, declared_as, method_like, outcome, outcome_within, received_call, seen_call}
use Rattle.wire_model.specs.Outcome as calls
use Rattle.wire_model.specs.Receiver.{Received, left, called, stub, client}
use Rattle.wire_model.specs.Requests.{AnswerFits, reply}
use Rattle.wire_model.specs.Status.{unknown_transaction}
use Rattle.wire_model.proofs.lemmas.NamedTexts.{number_declared}
use Rattle.wire_model.proofs.lemmas.calls.Outcomes as found

-- Without the server's interface

-- what is no interface has no methods
no_methods : (S : List Decl) (k : ℕ) → is_interface S k ≡ false → methods_at S k ≡ []
no_methods S k e = by_decl (slice_get S k) e
  where
    by_kind : (kind : Kind) → is_interface_kind kind ≡ false → methods_of kind ≡ []
    by_kind (Interface ms) e = cc
    by_kind (Parcelable fields) e = refl
    by_kind (Union fields) e = refl
    by_kind (Enum backing enumerators) e = refl

    by_decl : (o : Option Decl) → elim o [ None ↦ false | Some d ↦ is_interface_kind d.kind ] ≡ false → methods_of_decl o ≡ []
    by_decl None e = refl
    by_decl (Some d) e = by_kind d.kind e

no_like : (o : Option Method) → method_like o [] ≡ None
no_like None = refl
no_like (Some v) = refl

module _ (A : List Decl) (i m : ℕ) (B : List Decl) (args : Items) (answer : AnswerData) where
  no_method : (k : ℕ) → methods_at B k ≡ [] → received_call (method_of A i m) B k args ≡ Err unknown_transaction
  unfolding seen_call
  no_method k none = let like : method_like (method_at (method_of A i m)) (methods_at B k) ≡ None = ap (method_like (method_at (method_of A i m))) none ∙ no_like (method_at (method_of A i m)) in rw like refl

  pub nowhere : None ≡ interface_named B (encode_utf8_all (descriptor A i)) → outcome (method_of A i m) B args answer ≡ Err unknown_transaction
  nowhere none = by_declared (declared_as B (descriptor A i)) refl
    where
      chosen : (k : ℕ) (b : Bool) → None ≡ (if b then Some k else None) → b ≡ false
      chosen k true e = cc
      chosen k false e = refl

      by_declared : (o : Option ℕ) → declared_as B (descriptor A i) ≡ o → outcome (method_of A i m) B args answer ≡ Err unknown_transaction
      by_declared None is = found.nowhere A i m B args answer is
      by_declared (Some k) is =
          let number : number_of_name B (encode_utf8_all (descriptor A i)) ≡ Some k = number_declared B (descriptor A i) ∙ is in
          let not_one : None ≡ (if is_interface B k then Some k else None) = rw number at none in
          found.refused A i m B args answer k is unknown_transaction (no_method k (no_methods B k (chosen k (is_interface B k) not_one)))

-- With it

-- a call that is received, by whether the server's method is oneway
called_line : (B : List Decl) (j n : ℕ) (saw : Items) (answer : AnswerData) (target : Option TargetData) (got : Result AnswerData ℤ) (delivered : List ℕ) (out : Result Done ℤ)
    → scripted target n ≡ answer → (is_oneway (method_of B j n) ≡ true → out ≡ Ok (calls.oneway saw)) → (is_oneway (method_of B j n) ≡ false → delivered ≡ reply (method_of B j n) answer → out ≡ Ok (calls.done saw got))
    → IsReplied (sent_reply (method_of B j n) (scripted target n)) delivered → reported (Ok (called n saw)) (sent_reply (method_of B j n) (scripted target n)) got ≡ seen_line out
called_line B j n saw answer target got delivered out same one two = by_way (is_oneway (method_of B j n)) refl
  where
    by_way : (b : Bool) → is_oneway (method_of B j n) ≡ b → IsReplied (cond b None (Some (reply (method_of B j n) (scripted target n)))) delivered
        → reported (Ok (called n saw)) (cond b None (Some (reply (method_of B j n) (scripted target n)))) got ≡ seen_line out
    by_way true way h = ap seen_line (sym (one way))
    by_way false way h = ap seen_line (sym (two way (h ∙ ap (reply (method_of B j n)) same)))

module _ (p : Profile) (A B : List Decl) (c : CallData) (fits : CallFits A B c) (sent delivered : List ℕ) where
  -- the server lacks the interface
  pub line_nowhere : c.server ≡ None → line_of p A B c sent delivered ≡ projected A B (Ok c)
  line_nowhere none = rw none (ap seen_line (sym (nowhere A c.interface c.method B c.args (answer_by c.target) (sym none ∙ fits.server.named))))

  pub names_nowhere : c.server ≡ None → NamesOf c (methods_by c c.server (lines.received p A B c sent))
  names_nowhere none = rw none tt

  module _ (j : ℕ) (is : c.server ≡ Some j)
      (never_left : (n : ℕ) → stub p B j (call_code A c) sent ≡ Ok (left n) → ⊥)
      (common : (n : ℕ) (saw : Items) → stub p B j (call_code A c) sent ≡ Ok (called n saw) → method_like (method_at (callee A c)) (methods_at B j) ≡ Some n) where
    target_like : (n : ℕ) (saw : Items) → stub p B j (call_code A c) sent ≡ Ok (called n saw) → option_map (λ (t : TargetData). t.method) c.target ≡ Some n
    target_like n saw e = fits.target ∙ ap (method_of_server (callee A c) B) is ∙ common n saw e

    pub names_at : NamesOf c (methods_by c c.server (lines.received p A B c sent))
    names_at = by_server c.server is
      where
        by_stub : (x : Result Received ℤ) → stub p B j (call_code A c) sent ≡ x → NamesOf c (methods_by c (Some j) x)
        by_stub (Err s) e = tt
        by_stub (Ok (left n)) e = absurd (never_left n e)
        by_stub (Ok (called n saw)) e = (refl, refl, is, target_like n saw e)

        by_server : (o : Option ℕ) → o ≡ Some j → NamesOf c (methods_by c o (received_at p B o (call_code A c) sent))
        by_server None e = tt
        by_server (Some k) e =
            let same : j ≡ k = cc in
            subst (λ k. NamesOf c (methods_by c (Some k) (stub p B k (call_code A c) sent))) same (by_stub (stub p B j (call_code A c) sent) refl)

    pub line_at : (answer : AnswerData) → answer ≡ answer_by c.target
        → ((s : ℤ) → stub p B j (call_code A c) sent ≡ Err s → outcome (callee A c) B c.args answer ≡ Err s)
        → ((n : ℕ) (saw : Items) → stub p B j (call_code A c) sent ≡ Ok (called n saw) → is_oneway (method_of B j n) ≡ true → outcome (callee A c) B c.args answer ≡ Ok (calls.oneway saw))
        → ((n : ℕ) (saw : Items) → stub p B j (call_code A c) sent ≡ Ok (called n saw) → is_oneway (method_of B j n) ≡ false → AnswerFits (method_of B j n) answer → delivered ≡ reply (method_of B j n) answer
        → outcome (callee A c) B c.args answer ≡ Ok (calls.done saw (client p (callee A c) delivered)))
        → IsReplied (reply_sent p A B c sent) delivered → line_of p A B c sent delivered ≡ projected A B (Ok c)
    line_at answer by refused one two = whole
      where
        by_target : (n : ℕ) (saw : Items) → stub p B j (call_code A c) sent ≡ Ok (called n saw) → (o : Option TargetData) → c.target ≡ o → option_map (λ (t : TargetData). t.method) o ≡ Some n
            → (scripted o n ≡ answer) × AnswerFits (method_of B j n) answer
        by_target n saw e None at like = cc
        by_target n saw e (Some t) at like =
            let same : t.method ≡ n = cc in
            let test : (t.method == n) ≡ true = grind (arith, nat_tests) in
            let theirs : t.answer ≡ answer = sym (by ∙ ap answer_by at) in
            let fit : AnswerFits (method_of B j t.method) t.answer = subst (λ (o : Option TargetData). TargetFits B (Some j) o) at (subst (λ (o : Option ℕ). TargetFits B o c.target) is fits.answer) in
            (rw test theirs, subst (λ k. AnswerFits (method_of B j k) answer) same (subst (λ a. AnswerFits (method_of B j t.method) a) theirs fit))

        by_stub : (x : Result Received ℤ) → stub p B j (call_code A c) sent ≡ x → IsReplied (reply_at B (Some j) c.target x) delivered
            → reported x (reply_at B (Some j) c.target x) (client p (callee A c) delivered) ≡ seen_line (outcome (callee A c) B c.args answer)
        by_stub (Err s) e h = ap seen_line (sym (refused s e))
        by_stub (Ok (left n)) e h = absurd (never_left n e)
        by_stub (Ok (called n saw)) e h =
            let known = by_target n saw e c.target refl (target_like n saw e) in
            called_line B j n saw answer c.target (client p (callee A c) delivered) delivered (outcome (callee A c) B c.args answer) known.0
            (one n saw e) (λ way is. two n saw e way known.1 is) h

        by_server : (o : Option ℕ) → o ≡ Some j → IsReplied (reply_at B o c.target (received_at p B o (call_code A c) sent)) delivered
            → reported (received_at p B o (call_code A c) sent) (reply_at B o c.target (received_at p B o (call_code A c) sent)) (client p (callee A c) delivered)
            ≡ seen_line (outcome (callee A c) B c.args answer)
        by_server None e h = cc
        by_server (Some k) e h = let same : k ≡ j = cc in subst (λ k. IsReplied (reply_at B (Some k) c.target (stub p B k (call_code A c) sent)) delivered
            → reported (stub p B k (call_code A c) sent) (reply_at B (Some k) c.target (stub p B k (call_code A c) sent)) (client p (callee A c) delivered)
            ≡ seen_line (outcome (callee A c) B c.args answer)) (sym same) (λ h. by_stub (stub p B j (call_code A c) sent) refl h) h

        whole : IsReplied (reply_sent p A B c sent) delivered → line_of p A B c sent delivered ≡ projected A B (Ok c)
        whole h = by_server c.server is h ∙ ap (λ a. seen_line (outcome (callee A c) B c.args a)) by

    -- the same where the arguments are given otherwise
    pub line_by : (args : Items) → args ≡ c.args → (answer : AnswerData) → answer ≡ answer_by c.target
        → ((s : ℤ) → stub p B j (call_code A c) sent ≡ Err s → outcome (callee A c) B args answer ≡ Err s)
        → ((n : ℕ) (saw : Items) → stub p B j (call_code A c) sent ≡ Ok (called n saw) → is_oneway (method_of B j n) ≡ true → outcome (callee A c) B args answer ≡ Ok (calls.oneway saw))
        → ((n : ℕ) (saw : Items) → stub p B j (call_code A c) sent ≡ Ok (called n saw) → is_oneway (method_of B j n) ≡ false → AnswerFits (method_of B j n) answer → delivered ≡ reply (method_of B j n) answer
        → outcome (callee A c) B args answer ≡ Ok (calls.done saw (client p (callee A c) delivered)))
        → IsReplied (reply_sent p A B c sent) delivered → line_of p A B c sent delivered ≡ projected A B (Ok c)
    line_by args same answer by refused one two =
        let outcomes : outcome (callee A c) B c.args answer ≡ outcome (callee A c) B args answer = ap (λ vs. outcome (callee A c) B vs answer) (sym same) in
        line_at answer by (λ s e. outcomes ∙ refused s e) (λ n saw e way. outcomes ∙ one n saw e way) (λ n saw e way fit is. outcomes ∙ two n saw e way fit is)

-- Over one tree

module _ (S : List Decl) (c : CallData) (fits : CallFits S S c)
    (declared : declared_as S (descriptor S c.interface) ≡ Some c.interface)
    (like : method_like (method_at (callee S c)) (methods_at S c.interface) ≡ Some c.method) where
  -- the interface is found
  not_nowhere : c.server ≡ None → ⊥
  not_nowhere none = by_kind (is_interface S c.interface) refl
    where
      number : number_of_name S (encode_utf8_all (descriptor S c.interface)) ≡ Some c.interface
      number = number_declared S (descriptor S c.interface) ∙ declared

      named : None ≡ (if is_interface S c.interface then Some c.interface else None)
      named = let is : None ≡ interface_named S (encode_utf8_all (descriptor S c.interface)) = sym none ∙ fits.server.named in rw number at is

      by_kind : (b : Bool) → is_interface S c.interface ≡ b → ⊥
      by_kind true is = let e : None ≡ Some c.interface = rw is at named in absurd cc
      by_kind false is = let few : c.method < 0 = subst (λ ms. c.method < length ms) (no_methods S c.interface is) fits.there in absurd (omega arith)

  found_itself : (j : ℕ) → c.server ≡ Some j → j ≡ c.interface
  found_itself j is = let e : Some j ≡ Some c.interface = sym (fits.server.declared j is) ∙ declared in cc

  itself : c.server ≡ Some c.interface
  itself = by_server c.server refl
    where
      by_server : (o : Option ℕ) → c.server ≡ o → c.server ≡ Some c.interface
      by_server None is = absurd (not_nowhere is)
      by_server (Some j) is = is ∙ ap (λ k. let x : Option ℕ = Some k in x) (found_itself j is)

  -- what its method answers fits
  pub answered : AnswerFits (callee S c) (answer_by c.target)
  answered = by_target c.target refl (fits.target ∙ ap (method_of_server (callee S c) S) itself ∙ like)
    where
      by_target : (o : Option TargetData) → c.target ≡ o → option_map (λ (t : TargetData). t.method) o ≡ Some c.method → AnswerFits (callee S c) (answer_by c.target)
      by_target None is e = cc
      by_target (Some t) is e =
          let same : t.method ≡ c.method = cc in
          let fit : AnswerFits (method_of S c.interface t.method) t.answer = subst (λ (o : Option TargetData). TargetFits S (Some c.interface) o) is (subst (λ (o : Option ℕ). TargetFits S o c.target) itself fits.answer) in
          subst (λ a. AnswerFits (callee S c) a) (ap answer_by (sym is)) (subst (λ k. AnswerFits (method_of S c.interface k) t.answer) same fit)

  pub line_within : (args : Items) → args ≡ c.args → (answer : AnswerData) → answer ≡ answer_by c.target
      → (AnswerFits (callee S c) answer → outcome (callee S c) S args answer ≡ Ok (outcome_within (callee S c) args answer))
      → projected S S (Ok c) ≡ within_one S (Ok c)
  line_within args same answer by comes =
      let fit : AnswerFits (callee S c) answer = subst (λ a. AnswerFits (callee S c) a) (sym by) answered in
      ap seen_line (subst (λ vs. outcome (callee S c) S vs (answer_by c.target) ≡ Ok (outcome_within (callee S c) vs (answer_by c.target))) same
      (subst (λ a. outcome (callee S c) S args a ≡ Ok (outcome_within (callee S c) args a)) by (comes fit)))
