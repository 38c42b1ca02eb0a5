use Rattle.std.proofs.Common.{arith}
use Rattle.aidl_base.proofs.lemmas.Lists.{AreBytes}
use Rattle.wire_model.proofs.received.Answers.{got_typed}
use Rattle.wire_model.proofs.received.Statuses.{client_status}
use Rattle.wire_model.proofs.laws.law_client.Goals as goal

pub returns : goal.returns
returns c =
    let p = c.args.profile in
    let S = c.args.schema.now.decls in
    let sound = c.law_sound.ensures in
    let holds = c.law_valid.ensures.declarations in
    let bytes : AreBytes c.args.bytes.now = λ k. omega (arith, c.type_inv.bytes k) in
    record {
      typed = λ a e. got_typed p S sound holds c.args.interface c.args.method c.args.bytes.now a bytes e;
      status = client_status p S sound holds c.args.interface c.args.method c.args.bytes.now bytes;
    }
