use Rattle.wire_model.proofs.lemmas.Dots.{cut}
use Rattle.call_scripts.proofs.names.at_last_dot.Goals as goal

pub returns : goal.returns
returns c = cut c.args.text.now c.rsplit_once.result c.rsplit_once.ensures.cases
