use Rattle.std.proofs.Common.{inl, ◌≡◌, ◌≤◌, length, sym, ◌∙◌, subst, arith}
use Rattle.aidl_base.proofs.lemmas.Lists.{AreBytes}
use Rattle.aidl_values.specs.View.{views}
use Rattle.wire_model.specs.Calls.{code_at}
use Rattle.wire_model.specs.MethodOf.{method_of}
use Rattle.wire_model.specs.Outcome.{received_call}
use Rattle.wire_model.specs.Receiver.{stub}
use Rattle.wire_model.proofs.lemmas.calls.Itself.{method_there, declared_itself, called_itself}
use Rattle.wire_model.proofs.calls.Requests.{request_seen}
use Rattle.wire_model.proofs.laws.law_request_called.Goals as goal

pub returns : goal.returns
returns c =
    let S = c.args.schema.now.decls in
    let i = c.args.interface in
    let m = c.args.method in
    let args = views c.args.args.now in
    let meets = c.law_meets.ensures (inl c.law_chain.ensures.itself) in
    let calls = c.law_calls_meet.ensures (inl c.law_chain.ensures.itself) in
    let itself = c.law_same_types.ensures.itself in
    let holds = c.law_valid.ensures.declarations in
    let apart = c.law_valid.ensures.apart in
    let bytes : AreBytes c.args.bytes.now = λ k. omega (arith, c.type_inv.bytes k) in
    let x = method_there S i m c.requires.there in
    subst (λ b. stub c.args.profile S i (code_at (method_of S i m)) b ≡ received_call (method_of S i m) S i args) (sym c.requires.spelled)
    (request_seen c.args.profile S S meets calls c.law_sound.ensures holds i m i args c.requires.fits
    (subst (λ b. length b ≤ 1048576) c.requires.spelled c.requires.small) (subst AreBytes c.requires.spelled bytes)
    (declared_itself S meets calls itself holds apart i m x.0 x.1 x.2 x.3))
    ∙ called_itself S meets calls itself holds apart i m x.0 x.1 x.2 x.3 args c.requires.fits.each
