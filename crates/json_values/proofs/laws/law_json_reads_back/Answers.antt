use Rattle.aidl_values.specs.View.{view}
use Rattle.json_values.proofs.lemmas.Written.{reads_back}
use Rattle.json_values.proofs.laws.law_json_reads_back.Goals as goal

pub returns : goal.returns
returns c = reads_back c.args.schema.now.decls c.law_valid.ensures.declarations c.args.ty.now (view c.args.value.now) c.requires
