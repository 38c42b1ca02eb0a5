use Rattle.wire_model.proofs.lemmas.Dots.{cut}
use Rattle.witness_search.proofs.spot.at_last_dot.Goals as goal

pub returns : goal.returns
returns c = cut c.args.place.now c.rsplit_once.result c.rsplit_once.ensures.cases
