use Rattle.std.proofs.Common.{arith}
use Rattle.aidl_base.proofs.lemmas.Lists.{AreBytes}
use Rattle.wire_model.proofs.received.Arguments.{called_typed}
use Rattle.wire_model.proofs.received.Statuses.{stub_status}
use Rattle.wire_model.proofs.laws.law_stub.Goals as goal

pub returns : goal.returns
returns c =
    let p = c.args.profile in
    let S = c.args.schema.now.decls in
    let sound = c.law_sound.ensures in
    let holds = c.law_valid.ensures.declarations in
    let elements = c.law_valid.ensures.elements in
    let typed = c.law_typed_defaults.ensures in
    let bytes : AreBytes c.args.bytes.now = λ k. omega (arith, c.type_inv.bytes k) in
    let both = called_typed p S sound holds elements typed c.args.interface c.args.code c.args.bytes.now in
    record {
      coded = λ m saw e. (both m saw bytes e).0;
      typed = λ m saw e. (both m saw bytes e).1;
      status = stub_status p S sound holds elements typed c.args.interface c.args.code c.args.bytes.now bytes;
    }
