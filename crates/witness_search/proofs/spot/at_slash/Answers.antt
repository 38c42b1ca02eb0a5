use Rattle.witness_search.proofs.PlaceBytes.{cut_at_slash}
use Rattle.witness_search.proofs.spot.at_slash.Goals as goal

pub returns : goal.returns
returns c = cut_at_slash c.args.place.now c.split_once.result c.split_once.ensures.cases
