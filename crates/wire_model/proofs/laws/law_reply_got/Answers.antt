use Rattle.std.proofs.Common.{inl, ◌≡◌, sym, ◌∙◌, subst, arith}
use Rattle.aidl_base.proofs.lemmas.Lists.{AreBytes}
use Rattle.wire_model.specs.Calls.{answer_of}
use Rattle.wire_model.specs.MethodOf.{method_of}
use Rattle.wire_model.specs.Outcome.{seen_answer}
use Rattle.wire_model.specs.Receiver.{client}
use Rattle.wire_model.proofs.lemmas.calls.Itself.{method_there, declared_itself, like_itself, got_itself}
use Rattle.wire_model.proofs.calls.Replies.{reply_seen}
use Rattle.wire_model.proofs.laws.law_reply_got.Goals as goal

pub returns : goal.returns
returns c =
    let S = c.args.schema.now.decls in
    let i = c.args.interface in
    let m = c.args.method in
    let answer = answer_of c.args.answer.now in
    let meets = c.law_meets.ensures (inl c.law_chain.ensures.itself) in
    let calls = c.law_calls_meet.ensures (inl c.law_chain.ensures.itself) in
    let itself = c.law_same_types.ensures.itself in
    let holds = c.law_valid.ensures.declarations in
    let apart = c.law_valid.ensures.apart in
    let bytes : AreBytes c.args.bytes.now = λ k. omega (arith, c.type_inv.bytes k) in
    let x = method_there S i m c.requires.there in
    subst (λ b. client c.args.profile (method_of S i m) b ≡ seen_answer (method_of S i m) (method_of S i m) answer) (sym c.requires.spelled)
    (reply_seen c.args.profile S S meets c.law_sound.ensures calls holds i m i m answer c.requires.fits (subst AreBytes c.requires.spelled bytes)
    (declared_itself S meets calls itself holds apart i m x.0 x.1 x.2 x.3) (like_itself S meets calls itself holds apart i m x.0 x.1 x.2 x.3))
    ∙ got_itself S meets calls itself holds apart i m x.0 x.1 x.2 x.3 answer c.requires.fits.answer
