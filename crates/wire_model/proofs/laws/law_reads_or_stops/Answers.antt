use Rattle.std.proofs.Common.{arith}
use Rattle.aidl_base.proofs.lemmas.Lists.{AreBytes}
use Rattle.wire_model.proofs.lemmas.Reading.{reads_or_stops, not_both, one_status}
use Rattle.wire_model.proofs.stopped.Statuses.{stop_status}
use Rattle.wire_model.proofs.laws.law_reads_or_stops.Goals as goal

pub returns : goal.returns
returns c =
    let S = c.args.schema.now.decls in
    let sound = c.law_sound.ensures in
    let known = c.requires.known in
    let d = c.args.levels in
    let t = c.args.ty.now in
    let b = c.args.b.now in
    let bytes : AreBytes b = λ i. omega (arith, c.type_inv.b i) in
    record {
      one = reads_or_stops c.args.profile S sound d t known c.args.inside b bytes;
      not_both = not_both c.args.profile S sound d t known c.args.inside b bytes;
      one_status = one_status c.args.profile S sound d t known c.args.inside b bytes c.args.first c.args.second;
      status = stop_status c.args.profile S d t b c.args.inside;
    }
