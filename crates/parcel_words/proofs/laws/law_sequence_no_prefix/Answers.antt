use Rattle.aidl_base.specs.declared.profile.Profile.TheVariants.{Strict}
use Rattle.aidl_base.proofs.lemmas.Spelled.{sequence_prefix}
use Rattle.parcel_words.proofs.laws.law_sequence_no_prefix.Goals as goal

pub returns : goal.returns
returns g c = λ rest.
    let wire = g.W.Wire in
    sequence_prefix wire.spelling (wire.reading Strict) (λ x. wire.is_value x × wire.can_put x) (λ x i r good. g.met.W.Wire.taken_again x Strict i r good.0 good.1)
    c.args.first.now c.args.second.now rest c.requires.first_few (λ k d lt. (c.requires.first k d lt, c.requires.first_can k d lt))
    c.requires.second_few (λ k d lt. (c.requires.second k d lt, c.requires.second_can k d lt))
