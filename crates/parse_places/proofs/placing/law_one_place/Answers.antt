use Rattle.parse_places.proofs.Viability.{same_place, tree_or_place}
use Rattle.parse_places.proofs.placing.law_one_place.Goals as goal

pub returns : goal.returns
returns c =
    let tokens = c.args.tokens.now in
    record { one = tree_or_place tokens; only = λ j k here there. same_place tokens j k here there }
