use Rattle.aidl_values.proofs.lemmas.Sounds.{default_there}
use Rattle.aidl_values.proofs.laws.law_typed_defaults.Goals as goal

pub returns : goal.returns
returns c = λ t type. (default_there c.args.schema.now.decls c.law_valid.ensures.declarations c.law_valid.ensures.sizes t type).typed_as
