use Rattle.std.proofs.Common.{◌≡◌, ◌≤◌, ℤ, length, Some, Result, Ok, sym, ◌∙◌, ap, subst, arith}
use Rattle.aidl_base.proofs.lemmas.Lists.{AreBytes}
use Rattle.aidl_values.specs.View.{views}
use Rattle.wire_model.specs.Calls.{answer_of, code_at, descriptor}
use Rattle.wire_model.specs.MethodOf.{method_of}
use Rattle.wire_model.specs.Outcome.{OneFollows, declared_as, received_call, Done, done, seen_answer}
use Rattle.wire_model.specs.Receiver.{stub, client}
use Rattle.wire_model.proofs.lemmas.calls.Outcomes.{turned, nowhere, refused, never_left, like, oneway_outcome, done_outcome}
use Rattle.wire_model.proofs.calls.Replies.{reply_seen}
use Rattle.wire_model.proofs.calls.Requests.{request_seen}
use Rattle.wire_model.proofs.laws.law_outcome.Goals as goal

pub returns : goal.returns
returns c =
    let p = c.args.profile in
    let A = c.args.a.now.decls in
    let B = c.args.b.now.decls in
    let i = c.args.interface in
    let m = c.args.method in
    let j = c.args.other in
    let args = views c.args.args.now in
    let answer = answer_of c.args.answer.now in
    let sent : AreBytes c.args.sent.now = λ k. omega (arith, c.type_inv.sent k) in
    let replied : AreBytes c.args.replied.now = λ k. omega (arith, c.type_inv.replied k) in
    let seen : OneFollows A B → declared_as B (descriptor A i) ≡ Some j → stub p B j (code_at (method_of A i m)) c.args.sent.now ≡ received_call (method_of A i m) B j args =
    λ follows found. subst (λ b. stub p B j (code_at (method_of A i m)) b ≡ received_call (method_of A i m) B j args) (sym c.requires.spelled)
    (request_seen p A B (c.law_meets.ensures follows) (c.law_calls_meet.ensures follows) c.law_sound-2.ensures c.law_valid-2.ensures.declarations i m j args c.requires.fits
    (subst (λ b. length b ≤ 1048576) c.requires.spelled c.requires.small) (subst AreBytes c.requires.spelled sent) found) in
    record {
      nowhere = λ follows. nowhere A i m B args answer;
      refused = λ follows found s e. refused A i m B args answer j found s (sym (seen follows found) ∙ e);
      never_left = λ follows found n e. never_left A i m B args answer j found n (sym (seen follows found) ∙ e);
      common = λ follows found n saw e. like A i m B args answer j found n saw (sym (seen follows found) ∙ e);
      oneway = λ follows found n saw e one. oneway_outcome A i m B args answer j found n saw (sym (seen follows found) ∙ e) one;
      done = λ follows found n saw e two fits spelled.
          let got : client p (method_of A i m) c.args.replied.now ≡ seen_answer (method_of B j n) (method_of A i m) answer =
          subst (λ b. client p (method_of A i m) b ≡ seen_answer (method_of B j n) (method_of A i m) answer) (sym spelled)
          (reply_seen p A B (c.law_meets-2.ensures (turned A B follows)) c.law_sound.ensures (c.law_calls_meet-2.ensures (turned A B follows)) c.law_valid.ensures.declarations i m j n answer fits
          (subst AreBytes spelled replied) found (like A i m B args answer j found n saw (sym (seen follows found) ∙ e))) in
          done_outcome A i m B args answer j found n saw (sym (seen follows found) ∙ e) two
          ∙ ap (λ z. let x : Result Done ℤ = Ok (done saw z) in x) (sym got);
    }
