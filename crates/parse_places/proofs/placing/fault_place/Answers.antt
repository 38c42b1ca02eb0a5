use Rattle.parse_places.proofs.Viability.{answer, only_tree, only_place}
use Rattle.parse_places.proofs.placing.fault_place.Goals as goal

pub returns-clause-place : goal.returns-clause-place
returns-clause-place c = answer c.args.tokens.now c.place.result c.place.ensures

pub returns-clause-only_tree : goal.returns-clause-only_tree
returns-clause-only_tree c = only_tree c.args.tokens.now c.place.result c.place.ensures

pub returns-clause-only_place : goal.returns-clause-only_place
returns-clause-only_place c = only_place c.args.tokens.now c.place.result c.place.ensures
