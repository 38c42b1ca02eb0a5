use Rattle.aidl_base.proofs.lemmas.Spelled.{sequence_again}
use Rattle.parcel_words.proofs.laws.law_sequence_taken_again.Goals as goal

pub returns : goal.returns
returns g c = λ p nullable inside rest.
    let wire = g.W.Wire in
    sequence_again wire.spelling (wire.reading p) (λ x. wire.is_value x × wire.can_put x) (λ x i r good. g.met.W.Wire.taken_again x p i r good.0 good.1)
    c.args.items.now nullable inside rest c.requires.few (λ k d lt. (c.requires.values k d lt, c.requires.can k d lt))
