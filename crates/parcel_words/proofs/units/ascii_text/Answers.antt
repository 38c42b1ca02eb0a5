use Rattle.std.proofs.Common.{◌≡◌, refl, sym, subst, ap, ◌∙◌}
use Rattle.std.specs.Str.{IsAscii, chars}
use Rattle.std.proofs.lemmas.Str.{chars-IsAscii, IsUtf8-from_ascii}
use Rattle.parcel_words.proofs.units.ascii_text.Goals as goal

pub from_utf8_unchecked-text-requires : goal.from_utf8_unchecked-text-requires
from_utf8_unchecked-text-requires c = IsUtf8-from_ascii c.is_ascii_put.new.bytes (c.if-not-is_ascii_put.ensures refl).1

pub returns : goal.returns
returns c =
    let put = c.if-not-is_ascii_put.ensures refl in
    let is : c.in_ok-from_str.field-0 ≡ c.is_ascii_put.new.bytes = c.in_ok-from_str.ensures ∙ ap chars c.from_utf8_unchecked-text.ensures ∙ chars-IsAscii c.is_ascii_put.new.bytes put.1 in
    (is ∙ put.0, subst IsAscii (sym is) put.1)
