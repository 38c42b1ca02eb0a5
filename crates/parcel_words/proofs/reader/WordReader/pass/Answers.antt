use Rattle.std.proofs.Common.{◌≡◌, ◌-◌, length, ap, sym, ◌∙◌, arith}
use Rattle.parcel_words.specs.Place.{left}
use Rattle.parcel_words.proofs.Places.{length-left}
use Rattle.parcel_words.proofs.reader.WordReader.pass.Goals as goal

pub invariant_of-self : goal.invariant_of-self
invariant_of-self c =
    let a = c.self.inside in
    let room : length (left c.args.self.now) ≡ a.end - a.position = ap (λ p. length (left p)) (sym c.self.view_is) ∙ length-left a c.self.invariant in
    record { passed = omega (arith, room, c.requires); within = c.self.invariant.within; whole = c.self.invariant.whole; few = c.self.invariant.few; nested = c.self.invariant.nested }
