use Rattle.std.proofs.Common.{◌≡◌, ◌+◌, ◌*◌, ◌/◌, ◌-◌, ◌^◌, length, min, ap, sym, ◌∙◌, arith}
use Rattle.aidl_base.specs.Words.{units}
use Rattle.aidl_base.specs.Spellings.{spell_text}
use Rattle.aidl_base.proofs.lemmas.Spelled.{length-spell_text}
use Rattle.parcel_words.proofs.wire.TextWire.length.Goals as goal

pub returns : goal.returns
returns c =
    let x = c.args.self.now in
    let count = c.unit_count.ensures.count ∙ ap (λ t. length (units t)) (sym c.as_str.ensures.value) in
    let whole : (c.unit_count.result / 2 + 2) * 4 ≡ length (spell_text x) = omega (arith, count, length-spell_text x) in
    c.saturating_mul.ensures ∙ ap (λ n. min n (2 ^ 64 - 1)) whole
