use Rattle.graph_cycles.proofs.laws.law_some_cycles.Goals as goal
use Rattle.graph_cycles.proofs.lemmas.Found.{some_cycles}

pub returns : goal.returns
returns c = some_cycles c.args.edges.now
