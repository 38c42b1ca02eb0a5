use Rattle.std.proofs.Common.{◌≡◌, map, string_bytes, sym, subst, ap, ◌∙◌}
use Rattle.std.specs.Int.{w16, from_le_bytes}
use Rattle.std.specs.Str.{IsAscii}
use Rattle.std.proofs.lemmas.List.{take_all}
use Rattle.std.proofs.lemmas.Str.{chars-IsAscii}
use Rattle.parcel_words.proofs.units.long_text.Goals as goal

pub returns : goal.returns
returns c =
    let bytes = string_bytes c.loop-pair.text in
    let is : c.from_string.result ≡ bytes = c.from_string.ensures ∙ chars-IsAscii bytes c.loop-pair.invariant.ascii in
    let all = take_all c.loop-pair.pair-index c.args.pairs.now c.loop-pair-test.false in
    (is ∙ c.loop-pair.invariant.same ∙ ap (map (from_le_bytes w16)) all, subst IsAscii (sym is) c.loop-pair.invariant.ascii)
