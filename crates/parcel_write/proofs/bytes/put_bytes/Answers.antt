use Rattle.std.proofs.Common.{◌≡◌, ◌+◌, ◌∷◌, [], length, drop, sym, ap, ◌∙◌, arith}
use Rattle.std.proofs.lemmas.List.{drop_all}
use Rattle.aidl_values.specs.View.{datas, items_of, view_element}
use Rattle.parcel_words.specs.Written.{with_bytes}
use Rattle.parcel_words.proofs.lemmas.Appends.{with_more, with_none}
use Rattle.wire_model.specs.Spell.{raw_byte, raw_bytes}
use Rattle.parcel_write.proofs.Raw.{next_byte, next_is_byte}
use Rattle.parcel_write.proofs.Typed.{next_data}
use Rattle.parcel_write.proofs.bytes.put_bytes.Goals as goal

pub byte_of_element-requires : goal.byte_of_element-requires
byte_of_element-requires c =
    let next = next_data (datas c.args.elements.now) c.loop-i.i (view_element c.get.result) c.get.ensures in
    (next_is_byte _ _ _ next c.loop-i.invariant.bytes).0

pub byte-requires : goal.byte-requires
byte-requires c =
    let next = next_data (datas c.args.elements.now) c.loop-i.i (view_element c.get.result) c.get.ensures in
    omega (arith, ap length (next_byte _ _ _ next), c.loop-i.invariant.room)

pub loop-i-preserved : goal.loop-i-preserved
loop-i-preserved c =
    let ds = datas c.args.elements.now in
    let d = view_element c.get.result in
    let next = next_data ds c.loop-i.i d c.get.ensures in
    let rest = raw_bytes (items_of (drop (c.loop-i.i + 1) ds)) in
    let bytes = next_byte _ _ _ next in
    let wrote : c.byte.new.self ≡ with_bytes c.loop-i.to (raw_byte d ∷ []) = c.byte.ensures ∙ ap (λ b. with_bytes c.loop-i.to (b ∷ [])) c.byte_of_element.ensures in
    record {
      bytes = (next_is_byte _ _ _ next c.loop-i.invariant.bytes).1;
      all = ap (λ w. with_bytes w rest) wrote ∙ with_more c.loop-i.to (raw_byte d ∷ []) rest ∙ ap (with_bytes c.loop-i.to) (sym bytes) ∙ c.loop-i.invariant.all;
      room = omega (arith, ap length bytes, c.loop-i.invariant.room, ap (λ w. w.room) wrote);
    }
