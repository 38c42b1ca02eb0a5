use Rattle.std.proofs.Common.{◌≡◌, false, Some, string_bytes, sym, ap, ◌∙◌, arith}
use Rattle.std.specs.Result.{is_err}
use Rattle.std.specs.Str.{chars, encode_utf8_all}
use Rattle.std.specs.Char.Utf16.{has_unpaired_surrogate, utf16_lossy_chars}
use Rattle.aidl_base.proofs.lemmas.Texts.{AreUnits, chars_of_units}
use Rattle.parcel_words.proofs.units.well_formed.Goals as goal

pub returns-in-Ok : goal.returns-in-Ok
returns-in-Ok c =
    let us = c.args.units.now in
    let are : AreUnits us = λ k. omega (arith, c.type_inv.units k) in
    let paired : has_unpaired_surrogate us ≡ false = sym c.in_ok-text.ensures.unpaired ∙ ap is_err c.in-Ok.is in
    let spelled : string_bytes c.in-Ok.text ≡ encode_utf8_all (utf16_lossy_chars us) = rw c.in-Ok.is at c.in_ok-text.ensures.chars in
    rw paired (ap Some (c.from_string.ensures ∙ ap chars spelled ∙ chars_of_units us are))
