use Rattle.std.proofs.Common.{◌≡◌, ◌+◌, ◌-◌, ◌<◌, ◌≤◌, length, ap, sym, ◌∙◌, arith}
use Rattle.parcel_words.specs.Place.{left, opened}
use Rattle.parcel_words.specs.Fields.{place_of}
use Rattle.parcel_words.proofs.Places.{length-left, open_nested, open_ends, opened_place, ends_len}
use Rattle.parcel_words.proofs.reader.WordReader.open_record.Goals as goal

pub invariant_of-self : goal.invariant_of-self
invariant_of-self c =
    let a = c.self.inside in
    let room : length (left c.args.self.now) ≡ a.end - a.position = ap (λ p. length (left p)) (sym c.self.view_is) ∙ length-left a c.self.invariant in
    let few : a.open < 64 = omega (arith, ap (λ p. length p.ends) c.self.view_is, ends_len a, c.requires.room) in
    let fits : a.position + c.args.size ≤ a.end = omega (arith, room, c.requires.fits, c.requires.least) in
    record {
      passed = omega (arith, c.requires.least);
      within = omega (arith, c.self.invariant.within);
      whole = λ e. absurd (omega arith);
      few = omega arith;
      nested = open_nested a.open a.end a.outer (omega arith) (a.position + c.args.size) (length a.bytes.now) fits c.self.invariant.nested;
    }

pub returns : goal.returns
returns c =
    let a = c.self.inside in
    let few : a.open < 64 = omega (arith, ap (λ p. length p.ends) c.self.view_is, ends_len a, c.requires.room) in
    opened_place (place_of a) c.args.size _ (open_ends a.open a.end a.outer (omega arith) (a.position + c.args.size)) ∙ ap (λ p. opened p c.args.size) c.self.view_is
