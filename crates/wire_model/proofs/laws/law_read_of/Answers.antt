use Rattle.std.proofs.Common.{length, ap, ◌∙◌, arith, length-append}
use Rattle.aidl_base.proofs.lemmas.Lists.{AreBytes}
use Rattle.wire_model.proofs.lemmas.Nodes.{nodes}
use Rattle.wire_model.proofs.lemmas.Sound.{is_whole}
use Rattle.wire_model.specs.ReadOf.{read_of}
use Rattle.wire_model.proofs.lemmas.Reading.{reads_read, read_reads, read_typed, stop_read, read_stop}
use Rattle.wire_model.proofs.laws.law_read_of.Goals as goal

pub returns : goal.returns
returns c =
    let S = c.args.schema.now.decls in
    let sound = c.law_sound.ensures in
    let known = c.requires.known in
    let d = c.args.levels in
    let t = c.args.ty.now in
    let b = c.args.b.now in
    let inside = c.args.inside in
    let few = nodes c.args.profile S (is_whole S sound) c.law_small_defaults.ensures in
    let bytes : AreBytes b = λ i. omega (arith, c.type_inv.b i) in
    record {
      reads = λ v rest. (read_reads c.args.profile S sound d t known inside b bytes v rest, λ h. ap (read_of c.args.profile S d t inside) h.1 ∙ reads_read c.args.profile S sound d t known inside h.0 rest v h.2);
      typed = λ v rest. read_typed c.args.profile S sound d t known inside b bytes v rest;
      nodes = λ v rest e.
          let h = read_reads c.args.profile S sound d t known inside b bytes v rest e in
          omega (arith, few d t h.0 v h.2, ap length h.1, length-append h.0 rest);
      stops = λ s. (read_stop c.args.profile S sound d t known inside b bytes s, stop_read c.args.profile S sound d t known inside b s bytes);
    }
