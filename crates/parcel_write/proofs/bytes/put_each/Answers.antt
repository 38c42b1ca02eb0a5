use Rattle.std.proofs.Common.{◌+◌, length, replicate, sym, ap, ◌∙◌, arith}
use Rattle.aidl_base.specs.Words.{padding}
use Rattle.aidl_values.specs.View.{datas, items_of}
use Rattle.parcel_words.specs.Written.{with_bytes}
use Rattle.parcel_words.proofs.lemmas.Appends.{with_more}
use Rattle.wire_model.specs.Spell.{raw_bytes}
use Rattle.wire_model.proofs.lemmas.spelled.Sizes.{length-pad}
use Rattle.parcel_write.proofs.Raw.{length_raw}
use Rattle.parcel_write.proofs.bytes.put_each.Goals as goal

pub put_bytes-requires-clause-room : goal.put_bytes-requires-clause-room
put_bytes-requires-clause-room c = omega (arith, c.requires.room, length-pad (raw_bytes (items_of (datas c.args.elements.now))))

pub padding-requires : goal.padding-requires
padding-requires c =
    let bytes = raw_bytes (items_of (datas c.args.elements.now)) in
    let are = length_raw (datas c.args.elements.now) in
    omega (arith, c.requires.room, length-pad bytes, ap (λ w. w.room) c.put_bytes.ensures, are, ap padding (are ∙ sym c.len.ensures), ap (λ k. k + padding k) are)

pub returns : goal.returns
returns c =
    let bytes = raw_bytes (items_of (datas c.args.elements.now)) in
    let are = length_raw (datas c.args.elements.now) in
    c.padding.ensures ∙ ap (λ n. with_bytes c.put_bytes.new.to (replicate (padding n) 0)) (c.len.ensures ∙ sym are) ∙ ap (λ w. with_bytes w (replicate (padding (length bytes)) 0)) c.put_bytes.ensures
    ∙ with_more c.args.to.now bytes (replicate (padding (length bytes)) 0)
