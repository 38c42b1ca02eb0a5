use Rattle.std.proofs.Common.{ap, ◌∙◌}
use Rattle.witness_search.specs.steps.Named.{spot_named}
use Rattle.witness_search.proofs.Spots.{spot_by_bytes}
use Rattle.witness_search.proofs.spot.spot_of.Goals as goal

pub returns : goal.returns
returns c = λ p is. c.spot_named.ensures ∙ ap (spot_named c.args.version.now) is ∙ spot_by_bytes c.args.version.now p
