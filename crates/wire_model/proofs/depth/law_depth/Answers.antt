use Rattle.aidl_values.specs.View.{view}
use Rattle.wire_model.proofs.lemmas.Depths.{depths}
use Rattle.wire_model.proofs.lemmas.Sound.{is_whole}
use Rattle.wire_model.proofs.depth.law_depth.Goals as goal

pub returns : goal.returns
returns c =
    let S = c.args.schema.now.decls in
    depths c.args.profile S (is_whole S c.law_sound.ensures) c.law_shallow_defaults.ensures c.args.levels c.args.ty.now c.args.b.now (view c.args.value.now) c.requires
