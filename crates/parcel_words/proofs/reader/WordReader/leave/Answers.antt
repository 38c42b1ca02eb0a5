use Rattle.std.proofs.Common.{◌<◌, length, ap, ◌∙◌, arith}
use Rattle.parcel_words.specs.Place.{is_inside}
use Rattle.parcel_words.proofs.Places.{outer_within, nested_within, nested_whole, some_open}
use Rattle.parcel_words.proofs.reader.WordReader.leave.Goals as goal

pub invariant_of-self : goal.invariant_of-self
invariant_of-self c =
    let a = c.self.inside in
    let some : 0 < a.open = some_open a.open a.end a.outer (ap is_inside c.self.view_is ∙ c.requires) in
    let up = outer_within a.open a.end a.outer (length a.bytes.now) some c.self.invariant.nested in
    record {
      passed = up.0;
      within = nested_within _ _ a.outer _ up.1;
      whole = nested_whole _ _ a.outer _ up.1;
      few = omega (arith, c.self.invariant.few);
      nested = up.1;
    }
