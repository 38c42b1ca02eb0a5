use Rattle.std.proofs.Common.{◌≡◌, ◌≤◌, List, length, map, sym, ap, ◌∙◌, subst}
use Rattle.std.specs.Int.{w8, cast_signed}
use Rattle.aidl_base.specs.Words.{pad}
use Rattle.aidl_values.specs.Data.{Data, number}
use Rattle.aidl_values.specs.View.{datas, items_of}
use Rattle.aidl_values.proofs.lemmas.Views.{datas_bytes}
use Rattle.parcel_words.specs.Written.{with_bytes}
use Rattle.wire_model.specs.Spell.{raw_bytes}
use Rattle.parcel_write.proofs.bytes.put_raw.Goals as goal

pub put_kept-requires : goal.put_kept-requires
put_kept-requires c =
    let kept : datas c.args.elements.now ≡ map number (map (λ b. cast_signed w8 b) c.as_slice.result.now) =
    ap datas c.in-Bytes.is ∙ datas_bytes c.in-Bytes.bytes ∙ ap (λ bs. map number (map (λ b. cast_signed w8 b) bs)) (sym c.as_slice.ensures) in
    subst (λ ds. length (pad (raw_bytes (items_of ds))) ≤ c.args.to.now.room) kept c.requires.room

pub returns-in-Bytes : goal.returns-in-Bytes
returns-in-Bytes c =
    let kept : datas c.args.elements.now ≡ map number (map (λ b. cast_signed w8 b) c.as_slice.result.now) =
    ap datas c.in-Bytes.is ∙ datas_bytes c.in-Bytes.bytes ∙ ap (λ bs. map number (map (λ b. cast_signed w8 b) bs)) (sym c.as_slice.ensures) in
    c.put_kept.ensures ∙ ap (λ ds. with_bytes c.args.to.now (pad (raw_bytes (items_of ds)))) (sym kept)
