use Rattle.schema_bounds.proofs.lemmas.Chains.{too_large}
use Rattle.schema_bounds.proofs.laws.law_too_large.Goals as goal

pub returns : goal.returns
returns c = too_large c.args.decls.now
