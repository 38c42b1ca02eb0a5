use Rattle.parse_places.proofs.Viability.{offsets_free}
use Rattle.parse_places.proofs.placing.law_offsets.Goals as goal

pub returns : goal.returns
returns c = offsets_free c.args.first.now c.args.second.now
