use Rattle.aidl_values.proofs.lemmas.Sounds.{is_sound}
use Rattle.aidl_values.proofs.laws.law_sound.Goals as goal

pub returns : goal.returns
returns c = is_sound c.args.schema.now.decls c.law_valid.ensures.declarations c.law_valid.ensures.sizes
