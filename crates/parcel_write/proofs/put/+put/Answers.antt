use Rattle.std.proofs.Common.{◌≡◌, ◌+◌, ◌^◌, ◌<◌, true, false, pos, ◌++◌, length, drop, get_or, slice_get, sym, ap, ◌∙◌, subst, arith, length-append}
use Rattle.aidl_base.specs.Words.{word, pad}
use Rattle.aidl_base.proofs.lemmas.Spelled.{length-spell_text}
use Rattle.aidl_values.specs.View.{datas, field_datas, items_of, view, view_element}
use Rattle.aidl_values.proofs.lemmas.Depths.{no_deeper}
use Rattle.parcel_words.specs.Written.{with_bytes, with_size}
use Rattle.parcel_words.proofs.lemmas.Appends.{with_more}
use Rattle.wire_model.specs.Spell.{raw_bytes, body}
use Rattle.parcel_write.specs.steps.PlanSpell.{is_raw_item, element_of, record_entries, union_entries, id_of_entry, item_of, plan_spell, plan_spell_items, plan_spell_entries}
use Rattle.parcel_write.proofs.Records.{record_written}
use Rattle.parcel_write.proofs.Raw.{count_items}
use Rattle.parcel_write.proofs.Seen.{seen_text, seen_seq, seen_alt}
use Rattle.parcel_write.proofs.Sequences.{few_items, raw_written, items_written}
use Rattle.parcel_write.proofs.Typed.{next_data, element_suits, element_spelled, field_suits, field_spelled}
use Rattle.parcel_write.proofs.put.+put.Goals as goal

pub put-put-requires-clause-can : goal.put-put-requires-clause-can
put-put-requires-clause-can t c =
    let small = subst (λ d. length (plan_spell c.args.plans.now c.args.id d) < 2 ^ 31) (seen_text c.args.value.now c.in-Text.text c.in-Text.is) c.requires.small in
    omega (arith, small, length-spell_text c.in-Text.text)

pub put-count-requires-clause-few : goal.put-count-requires-clause-few
put-count-requires-clause-few t c =
    let es = c.in-Seq.elements in
    let small = subst (λ d. length (plan_spell c.args.plans.now c.args.id d) < 2 ^ 31) (seen_seq c.args.value.now es c.in-Seq.is) c.requires.small in
    omega (arith, c.len.ensures, few_items c.args.plans.now c.args.id (items_of (datas es)) _ (count_items (datas es)) small)

pub put-returns-then-is_raw : goal.put-returns-then-is_raw
put-returns-then-is_raw t c =
    let P = c.args.plans.now in
    let id = c.args.id in
    let es = c.in-Seq.elements in
    let vs = items_of (datas es) in
    let w = c.args.to.now in
    let raw : is_raw_item (item_of P id) ≡ true = ap is_raw_item (sym c.item-item.ensures) ∙ sym c.is_raw.ensures ∙ c.if-is_raw.true in
    let counted : c.count.new.self ≡ with_bytes w (word (pos (length (datas es)))) = c.count.ensures ∙ ap (λ n. with_bytes w (word (pos n))) c.len.ensures in
    c.put_raw.ensures ∙ ap (λ x. with_bytes x (pad (raw_bytes vs))) counted ∙ raw_written P id w vs _ (count_items (datas es)) raw
    ∙ ap (λ d. with_bytes w (plan_spell P id d)) (sym (seen_seq c.args.value.now es c.in-Seq.is))

pub put-returns-else-is_raw : goal.put-returns-else-is_raw
put-returns-else-is_raw t c =
    let P = c.args.plans.now in
    let id = c.args.id in
    let es = c.in-Seq.elements in
    let vs = items_of (datas es) in
    let w = c.args.to.now in
    let apart : is_raw_item (item_of P id) ≡ false = ap is_raw_item (sym c.item-item.ensures) ∙ sym c.is_raw.ensures ∙ c.if-is_raw.false in
    let part : c.element_in.result ≡ element_of (item_of P id) = c.element_in.ensures ∙ ap element_of c.item-item.ensures in
    let counted : c.count.new.self ≡ with_bytes w (word (pos (length (datas es)))) = c.count.ensures ∙ ap (λ n. with_bytes w (word (pos n))) c.len.ensures in
    let added : c.put_elements.new.to ≡ with_bytes c.count.new.self (plan_spell_items P (element_of (item_of P id)) vs) = rw (← part) c.put_elements.ensures in
    added ∙ ap (λ x. with_bytes x (plan_spell_items P (element_of (item_of P id)) vs)) counted ∙ items_written P id w vs _ (count_items (datas es)) apart
    ∙ ap (λ d. with_bytes w (plan_spell P id d)) (sym (seen_seq c.args.value.now es c.in-Seq.is))

pub put-returns-in-Alt : goal.put-returns-in-Alt
put-returns-in-Alt t c =
    let P = c.args.plans.now in
    let w = c.args.to.now in
    let v = c.in-Alt.inner.value in
    let u = id_of_entry (slice_get (union_entries P.fields (item_of P c.args.id)) c.in-Alt.tag) in
    let part : c.alternative_in.result ≡ u = c.alternative_in.ensures ∙ ap (λ i. id_of_entry (slice_get (union_entries P.fields i) c.in-Alt.tag)) c.item-in-Alt.ensures in
    let tag = word (pos c.in-Alt.tag) in
    let inner = plan_spell P u (view v) in
    let added : c.put-in-Alt.new.to ≡ with_bytes c.put_tag.new.to inner = rw (← part, ← c.deref.ensures) c.put-in-Alt.ensures in
    added ∙ ap (λ x. with_bytes x inner) c.put_tag.ensures ∙ ap (λ x. with_bytes (with_bytes x tag) inner) c.word-in-Alt.ensures
    ∙ with_more (with_bytes w (word (pos 1))) tag inner ∙ with_more w (word (pos 1)) (tag ++ inner)
    ∙ ap (λ d. with_bytes w (plan_spell P c.args.id d)) (sym (seen_alt c.args.value.now c.in-Alt.tag c.in-Alt.inner c.in-Alt.is))

pub put_elements-put_element-requires : goal.put_elements-put_element-requires
put_elements-put_element-requires t c =
    let P = c.args.plans.now in
    let ds = datas c.args.elements.now in
    let d = view_element c.get.result in
    let inv = c.loop-i.invariant in
    let below = no_deeper ds c.loop-i.i d c.get.ensures in
    let at = next_data ds c.loop-i.i d c.get.ensures in
    let next = ap length (element_spelled P c.args.id _ d _ at) in
    let parts = length-append (plan_spell P c.args.id d) (plan_spell_items P c.args.id (items_of (drop (c.loop-i.i + 1) ds))) in
    (omega (arith, below, c.decreases), (c.item-item.ensures, ((element_suits P c.args.id _ d _ at inv.suits).0, (omega (arith, next, parts, inv.small), omega (arith, next, parts, inv.room)))))

pub put_elements-loop-i-preserved : goal.put_elements-loop-i-preserved
put_elements-loop-i-preserved t c =
    let P = c.args.plans.now in
    let ds = datas c.args.elements.now in
    let d = view_element c.get.result in
    let inv = c.loop-i.invariant in
    let at = next_data ds c.loop-i.i d c.get.ensures in
    let this = plan_spell P c.args.id d in
    let rest = plan_spell_items P c.args.id (items_of (drop (c.loop-i.i + 1) ds)) in
    let next = element_spelled P c.args.id _ d _ at in
    let wrote : c.put_element.new.to ≡ with_bytes c.loop-i.to this = c.put_element.ensures in
    record {
      suits = (element_suits P c.args.id _ d _ at inv.suits).1;
      small = omega (arith, ap length next, inv.small, length-append this rest);
      room = omega (arith, ap length next, inv.room, ap (λ w. w.room) wrote, length-append this rest);
      all = ap (λ w. with_bytes w rest) wrote ∙ with_more c.loop-i.to this rest ∙ ap (with_bytes c.loop-i.to) (sym next) ∙ inv.all;
    }

pub put_record-close_record-requires-clause-small : goal.put_record-close_record-requires-clause-small
put_record-close_record-requires-clause-small t c =
    let P = c.args.plans.now in
    let marked = c.word.new.self in
    let entries = record_entries P.fields (item_of P c.args.id) in
    let fields = plan_spell_entries P entries (items_of (field_datas c.args.values.now)) in
    let are : c.fields_in.result.now ≡ entries = c.fields_in.ensures ∙ ap (record_entries P.fields) c.item.ensures in
    let filled : c.put_fields.new.to ≡ with_bytes c.open_record-start.new.self fields = rw (← are) c.put_fields.ensures in
    let opened : c.put_fields.new.to ≡ with_bytes (with_bytes marked (word (pos 0))) fields = filled ∙ ap (λ x. with_bytes x fields) c.open_record-start.ensures.written in
    let bytes : length c.put_fields.new.to.bytes ≡ length ((marked.bytes ++ word (pos 0)) ++ fields) = ap (λ w. length w.bytes) opened in
    omega (arith, c.requires.small, bytes, c.open_record-start.ensures.start, length-append (marked.bytes ++ word (pos 0)) fields, length-append marked.bytes (word (pos 0)), length-append (word (pos 1)) (body fields))

pub put_record-returns : goal.put_record-returns
put_record-returns t c =
    let P = c.args.plans.now in
    let w = c.args.to.now in
    let marked = c.word.new.self in
    let entries = record_entries P.fields (item_of P c.args.id) in
    let fields = plan_spell_entries P entries (items_of (field_datas c.args.values.now)) in
    let are : c.fields_in.result.now ≡ entries = c.fields_in.ensures ∙ ap (record_entries P.fields) c.item.ensures in
    let filled : c.put_fields.new.to ≡ with_bytes c.open_record-start.new.self fields = rw (← are) c.put_fields.ensures in
    let opened : c.put_fields.new.to ≡ with_bytes (with_bytes marked (word (pos 0))) fields = filled ∙ ap (λ x. with_bytes x fields) c.open_record-start.ensures.written in
    let closed : c.close_record.new.self ≡ with_bytes marked (body fields) = c.close_record.ensures ∙ ap (λ n. with_size c.put_fields.new.to n) c.open_record-start.ensures.start
    ∙ ap (λ x. with_size x (length marked.bytes)) opened ∙ record_written marked fields in
    closed ∙ ap (λ x. with_bytes x (body fields)) c.word.ensures ∙ with_more w (word (pos 1)) (body fields)

pub put_fields-put-requires : goal.put_fields-put-requires
put_fields-put-requires t c =
    let P = c.args.plans.now in
    let gs = c.args.fields.now in
    let ds = field_datas c.args.values.now in
    let i = c.loop-i.i in
    let g = c.index-fields-i.result in
    let d = view c.get.result.now in
    let inv = c.loop-i.invariant in
    let below = no_deeper ds i d c.get.ensures in
    let next = ap length (field_spelled P gs ds i g d inv.same c.get.ensures) in
    let parts = length-append (plan_spell P (get_or gs i g).item d) (plan_spell_entries P (drop (i + 1) gs) (items_of (drop (i + 1) ds))) in
    (omega (arith, below, c.decreases), ((field_suits P gs ds i g d inv.same c.get.ensures inv.suits).0, (omega (arith, next, parts, inv.small), omega (arith, next, parts, inv.room))))

pub put_fields-loop-i-preserved : goal.put_fields-loop-i-preserved
put_fields-loop-i-preserved t c =
    let P = c.args.plans.now in
    let gs = c.args.fields.now in
    let ds = field_datas c.args.values.now in
    let i = c.loop-i.i in
    let g = c.index-fields-i.result in
    let d = view c.get.result.now in
    let inv = c.loop-i.invariant in
    let this = plan_spell P (get_or gs i g).item d in
    let rest = plan_spell_entries P (drop (i + 1) gs) (items_of (drop (i + 1) ds)) in
    let next = field_spelled P gs ds i g d inv.same c.get.ensures in
    let wrote : c.put.new.to ≡ with_bytes c.loop-i.to this = c.put.ensures in
    record {
      same = inv.same;
      suits = (field_suits P gs ds i g d inv.same c.get.ensures inv.suits).1;
      small = omega (arith, ap length next, inv.small, length-append this rest);
      room = omega (arith, ap length next, inv.room, ap (λ w. w.room) wrote, length-append this rest);
      all = ap (λ w. with_bytes w rest) wrote ∙ with_more c.loop-i.to this rest ∙ ap (with_bytes c.loop-i.to) (sym next) ∙ inv.all;
    }
