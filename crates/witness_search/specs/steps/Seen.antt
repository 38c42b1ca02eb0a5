-- What the code's methods of a place stand for.
use Rattle.compat_witness.specs.Places as place
use Rattle.witness_search.specs.declared.spot.Spot.{Spot}

abbrev pub spot_seen : Spot → place.Spot
spot_seen s = record { interface = s.interface; position = s.position; method = s.method.now }
