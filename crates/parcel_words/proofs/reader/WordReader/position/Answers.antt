use Rattle.std.proofs.Common.{length, ap, sym, ◌∙◌, arith}
use Rattle.parcel_words.specs.Place.{limit}
use Rattle.parcel_words.proofs.Places.{limit_is}
use Rattle.parcel_words.proofs.reader.WordReader.position.Goals as goal

pub returns-clause-within : goal.returns-clause-within
returns-clause-within c = let e = ap limit (sym c.self.view_is) ∙ limit_is c.self.inside c.self.invariant in omega (arith, e, c.self.invariant.passed, ap (λ p. p.position) c.self.view_is)

pub returns-clause-whole : goal.returns-clause-whole
returns-clause-whole c = let e = ap limit (sym c.self.view_is) ∙ limit_is c.self.inside c.self.invariant in omega (arith, e, c.self.invariant.within, ap (λ p. length p.bytes) c.self.view_is)
