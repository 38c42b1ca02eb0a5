use Rattle.dump_reading.proofs.lemmas.ReadBack.{have_trees}
use Rattle.dump_reading.proofs.laws.law_dump_tree.Goals as goal

pub returns : goal.returns
returns c = have_trees c.args.schema.now.decls c.args.schema.now.valid
