use Rattle.std.proofs.Common.{◌≡◌, ℕ, ◌+◌, ◌*◌, [], ◌∷◌, length, take, replicate, sym, ap, ◌∙◌, arith}
use Rattle.std.specs.Str.{chars}
use Rattle.aidl_base.specs.Words.{padding, units, unit_bytes}
use Rattle.aidl_base.proofs.lemmas.Blocks.{block_is, length_block_parts}
use Rattle.parcel_words.specs.Written.{with_bytes}
use Rattle.parcel_words.proofs.lemmas.Appends.{five_zeros, with_more}
use Rattle.parcel_words.proofs.writer.WordWriter.block.Goals as goal

pub append-requires : goal.append-requires
append-requires c =
    omega (arith, length_block_parts (chars c.args.text.now), ap (λ w. w.room) c.units.ensures, c.padding_of.ensures, c.requires.room, c.requires.units)

pub returns : goal.returns
returns c =
    let w = c.args.self.now in
    let x = chars c.args.text.now in
    let n = padding (2 * (length (units x) + 1)) in
    let pads : c.padding_of.result ≡ n = c.padding_of.ensures ∙ ap (λ k. padding (2 * (k + 1))) c.requires.units in
    let zeros = replicate (2 + n) 0 in
    let tail : take {A = ℕ} (2 + c.padding_of.result) (0 ∷ 0 ∷ 0 ∷ 0 ∷ 0 ∷ []) ≡ zeros = five_zeros (2 + c.padding_of.result) (omega (arith, pads)) ∙ ap (λ k. replicate (2 + k) 0) pads in
    c.append.ensures ∙ ap (with_bytes c.units.new.self) tail ∙ ap (λ v. with_bytes v zeros) c.units.ensures
    ∙ with_more w (unit_bytes (units x)) zeros ∙ ap (with_bytes w) (sym (block_is x))
