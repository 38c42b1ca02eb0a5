use Rattle.std.proofs.Common.{◌≡◌, sym, subst, arith}
use Rattle.aidl_base.proofs.lemmas.Lists.{AreBytes}
use Rattle.wire_model.specs.Calls.{answer_of}
use Rattle.wire_model.specs.MethodOf.{method_of}
use Rattle.wire_model.specs.Outcome.{seen_answer}
use Rattle.wire_model.specs.Receiver.{client}
use Rattle.wire_model.proofs.lemmas.calls.Outcomes.{turned}
use Rattle.wire_model.proofs.calls.Replies.{reply_seen}
use Rattle.wire_model.proofs.laws.law_reply_seen.Goals as goal

pub returns : goal.returns
returns c =
    let A = c.args.a.now.decls in
    let B = c.args.b.now.decls in
    let i = c.args.interface in
    let m = c.args.method in
    let j = c.args.other in
    let n = c.args.other_method in
    let answer = answer_of c.args.answer.now in
    let bytes : AreBytes c.args.bytes.now = λ k. omega (arith, c.type_inv.bytes k) in
    subst (λ b. client c.args.profile (method_of A i m) b ≡ seen_answer (method_of B j n) (method_of A i m) answer) (sym c.requires.spelled)
    (reply_seen c.args.profile A B (c.law_meets.ensures (turned A B c.requires.unbroken)) c.law_sound.ensures (c.law_calls_meet.ensures (turned A B c.requires.unbroken)) c.law_valid.ensures.declarations i m j n answer
    c.requires.fits (subst AreBytes c.requires.spelled bytes) c.requires.shared c.requires.common)
