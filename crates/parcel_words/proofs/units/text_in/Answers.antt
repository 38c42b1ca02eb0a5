use Rattle.std.proofs.Common.{◌≡◌, ◌/◌, length, map, refl, subst, ap, ◌∙◌}
use Rattle.std.specs.Int.{w16, from_le_bytes}
use Rattle.std.specs.Str.{IsAscii}
use Rattle.aidl_base.specs.Readings.{units_of}
use Rattle.aidl_base.proofs.lemmas.Blocks.{units_of_pairs}
use Rattle.parcel_words.proofs.Ascii.{ascii_is}
use Rattle.parcel_words.proofs.units.text_in.Goals as goal

pub returns-in-Some : goal.returns-in-Some
returns-in-Some c =
    let bytes = c.args.bytes.now in
    let taken = rw c.in-Some.is at c.in_ok-text.ensures in
    let is : c.in-Some.text ≡ units_of bytes = taken.0 ∙ ap (map (from_le_bytes w16)) c.as_chunks.ensures.front ∙ units_of_pairs (length bytes / 2) bytes refl in
    ascii_is (units_of bytes) c.in-Some.text is (subst IsAscii is taken.1)
