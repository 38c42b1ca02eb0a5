use Rattle.std.proofs.Common.{◌≡◌, ◌≤◌, length, sym, subst, arith}
use Rattle.aidl_base.proofs.lemmas.Lists.{AreBytes}
use Rattle.aidl_values.specs.View.{views}
use Rattle.wire_model.specs.Calls.{code_at}
use Rattle.wire_model.specs.MethodOf.{method_of}
use Rattle.wire_model.specs.Outcome.{received_call}
use Rattle.wire_model.specs.Receiver.{stub}
use Rattle.wire_model.proofs.calls.Requests.{request_seen}
use Rattle.wire_model.proofs.laws.law_request_seen.Goals as goal

pub returns : goal.returns
returns c =
    let A = c.args.a.now.decls in
    let B = c.args.b.now.decls in
    let i = c.args.interface in
    let m = c.args.method in
    let j = c.args.other in
    let args = views c.args.args.now in
    let bytes : AreBytes c.args.bytes.now = λ k. omega (arith, c.type_inv.bytes k) in
    subst (λ b. stub c.args.profile B j (code_at (method_of A i m)) b ≡ received_call (method_of A i m) B j args) (sym c.requires.spelled)
    (request_seen c.args.profile A B (c.law_meets.ensures c.requires.unbroken) (c.law_calls_meet.ensures c.requires.unbroken) c.law_sound.ensures c.law_valid.ensures.declarations i m j args c.requires.fits
    (subst (λ b. length b ≤ 1048576) c.requires.spelled c.requires.small) (subst AreBytes c.requires.spelled bytes) c.requires.shared)
