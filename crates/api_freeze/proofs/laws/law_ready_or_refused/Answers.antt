use Rattle.api_freeze.proofs.lemmas.ReadyOrRefused.{ready_or_refused}
use Rattle.api_freeze.proofs.laws.law_ready_or_refused.Goals as goal

pub returns : goal.returns
returns c = ready_or_refused c.args.schema.now.decls c.args.schema.now.valid
