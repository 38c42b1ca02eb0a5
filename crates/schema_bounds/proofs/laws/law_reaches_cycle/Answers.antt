use Rattle.schema_bounds.proofs.lemmas.Chains.{told}
use Rattle.schema_bounds.proofs.laws.law_reaches_cycle.Goals as goal

pub returns : goal.returns
returns c = told c.args.decls.now
