use Rattle.parcel_words.proofs.laws.law_taken_again.Goals as goal

pub returns : goal.returns
returns g c = λ p inside rest. g.met.W.Wire.taken_again c.args.value.now p inside rest c.requires.value c.requires.can
