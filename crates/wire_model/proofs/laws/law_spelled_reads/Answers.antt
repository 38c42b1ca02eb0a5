use Rattle.aidl_values.specs.View.{view}
use Rattle.wire_model.proofs.lemmas.spelled.Reads.{spelled_reads}
use Rattle.wire_model.proofs.laws.law_spelled_reads.Goals as goal

pub returns : goal.returns
returns c = spelled_reads c.args.profile c.args.schema.now.decls c.args.levels c.args.ty.now (view c.args.value.now) c.requires.typed c.requires.deep c.requires.small
