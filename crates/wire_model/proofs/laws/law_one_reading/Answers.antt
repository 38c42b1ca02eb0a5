use Rattle.aidl_values.specs.View.{view}
use Rattle.wire_model.proofs.again.All.{one_reading}
use Rattle.wire_model.proofs.lemmas.Sound.{is_whole}
use Rattle.wire_model.proofs.laws.law_one_reading.Goals as goal

pub returns : goal.returns
returns c =
    let S = c.args.schema.now.decls in
    let sound = c.law_sound.ensures in
    let same = one_reading c.args.profile S (is_whole S sound) c.args.levels c.args.ty.now (view c.args.first.now) (view c.args.second.now) c.args.b.now c.args.c.now c.requires.front.0 c.requires.known c.requires.one c.requires.two c.requires.front.1 in
    record { bytes = same.0; values = same.1 }
