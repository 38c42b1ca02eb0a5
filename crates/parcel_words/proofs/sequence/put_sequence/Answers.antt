use Rattle.std.proofs.Common.{length, pos, sym, ap, ◌∙◌, arith}
use Rattle.std.specs.List.{flat_map}
use Rattle.std.proofs.lemmas.List.{at_drop_all}
use Rattle.aidl_base.specs.Words.{word}
use Rattle.parcel_words.specs.Written.{with_bytes}
use Rattle.parcel_words.proofs.lemmas.Appends.{with_more, with_none}
use Rattle.parcel_words.proofs.sequence.put_sequence.Goals as goal

pub returns : goal.returns
returns g c =
    let spelled = flat_map g.W.Wire.spelling in
    let items = c.args.items.now in
    sym (with_none c.loop-item.to) ∙ ap (with_bytes c.loop-item.to) (sym (at_drop_all spelled items c.loop-item.item-index (omega arith))) ∙ c.loop-item.invariant.all
    ∙ ap (λ w. with_bytes w (spelled items)) c.count.ensures ∙ with_more c.args.to.now (word (pos (length items))) (spelled items)
