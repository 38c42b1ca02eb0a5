use Rattle.schema_bounds.proofs.lemmas.Chains.{all_within}
use Rattle.schema_bounds.proofs.laws.law_within.Goals as goal

pub returns : goal.returns
returns c = all_within c.args.decls.now
