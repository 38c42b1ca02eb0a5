use Rattle.std.proofs.Common.{◌∙◌, ap}
use Rattle.parcel_words.specs.Place.{left}
use Rattle.parcel_words.proofs.Places.{rest_is}
use Rattle.parcel_words.proofs.reader.WordReader.rest.Goals as goal

pub returns : goal.returns
returns c = record { rest = rest_is c.self.inside c.self.invariant ∙ ap left c.self.view_is }
