use Rattle.parcel_words.proofs.laws.law_no_prefix.Goals as goal

pub returns : goal.returns
returns g c = λ rest. g.met.W.Wire.no_prefix c.args.first.now c.args.second.now rest c.requires.first c.requires.first_can c.requires.second c.requires.second_can
