use Rattle.std.proofs.Common.{◌≡◌, ◌+◌, ◌*◌, ℤ, pos, true, List, length, length-append, map, drop, get_or, inl, inr, sym, ap, ◌∙◌, arith}
use Rattle.std.specs.Int.{w8, cast_signed}
use Rattle.std.proofs.lemmas.List.{length-map}
use Rattle.aidl_base.specs.Words.{padding}
use Rattle.aidl_values.specs.Data.{number, truth}
use Rattle.aidl_values.specs.View.{datas, field_datas, items_of, view, views}
use Rattle.aidl_values.proofs.lemmas.Depths.{no_deeper, item_no_deeper}
use Rattle.aidl_values.proofs.lemmas.Views.{datas_truths, datas_bytes, datas_chars, datas_ints, datas_longs}
use Rattle.parcel_write.specs.steps.PlanSpell.{is_raw_item, item_of, number_by, plan_spell, plan_spell_entries, plan_spell_items}
use Rattle.parcel_write.proofs.Raw.{count_items, length_raw_sequence}
use Rattle.parcel_write.proofs.Seen.{seen_seq}
use Rattle.parcel_write.proofs.SideBySide.{length_each}
use Rattle.parcel_write.proofs.Typed.{next_view, element_suits, element_spelled, field_suits, field_spelled}
use Rattle.parcel_write.proofs.length.+length.Goals as goal

pub length_of-returns-then-is_raw : goal.length_of-returns-then-is_raw
length_of-returns-then-is_raw t c =
    let P = c.args.plans.now in
    let id = c.args.id in
    let es = c.in-Seq.elements in
    let raw : is_raw_item (item_of P id) ≡ true = ap is_raw_item (sym c.item-item.ensures) ∙ sym c.is_raw.ensures ∙ c.if-is_raw.true in
    let whole = ap (λ d. length (plan_spell P id d)) (seen_seq c.args.value.now es c.in-Seq.is) ∙ length_raw_sequence P id (items_of (datas es)) _ (count_items (datas es)) raw in
    let n = ap (λ k. k + padding k) c.len.ensures in
    omega (arith, c.saturating_add.ensures, c.padded.ensures, whole, n)

pub elements_length-returns-in-Truths : goal.elements_length-returns-in-Truths
elements_length-returns-in-Truths t c =
    let P = c.args.plans.now in
    let bs = c.in-Truths.truths in
    let are : datas c.args.elements.now ≡ map truth bs = ap datas c.in-Truths.is ∙ datas_truths bs in
    let whole = ap (λ ds. length (plan_spell_items P c.args.id (items_of ds))) are ∙ length_each truth P c.args.id 4 (λ b. omega arith) bs in
    omega (arith, c.saturating_mul.ensures, whole, ap (λ n. n * 4) c.len.ensures)

pub elements_length-returns-in-Bytes : goal.elements_length-returns-in-Bytes
elements_length-returns-in-Bytes t c =
    let P = c.args.plans.now in
    let es = c.args.elements.now in
    let numbers : (ns : List ℤ) × (datas es ≡ map number ns) =
    elim c.in-Bytes.is [
      | inl e ↦ (map (λ b. cast_signed w8 b) e.0, ap datas e.1 ∙ datas_bytes e.0)
      | inr f ↦ elim f [ inl e ↦ (map pos e.0, ap datas e.1 ∙ datas_chars e.0) | inr g ↦ elim g [ inl e ↦ (e.0, ap datas e.1 ∙ datas_ints e.0) | inr e ↦ (e.0, ap datas e.1 ∙ datas_longs e.0) ] ]
    ] in
    let each : (n : ℤ) → c.number_length-each.result ≡ length (plan_spell P c.args.id (number n)) = λ n. c.number_length-each.ensures n ∙ ap (λ i. length (number_by i n)) c.item.ensures in
    let whole = ap (λ ds. length (plan_spell_items P c.args.id (items_of ds))) numbers.1 ∙ length_each number P c.args.id c.number_length-each.result each numbers.0 in
    let many = c.len-in-Bytes.ensures ∙ ap length numbers.1 ∙ length-map numbers.0 number in
    omega (arith, c.min-in-Bytes.ensures, c.saturating_mul-in-Bytes.ensures, whole, ap (λ n. n * c.number_length-each.result) many)

pub values_length-length_of-len-requires : goal.values_length-length_of-len-requires
values_length-length_of-len-requires t c =
    let vs = c.args.values.now in
    let i = c.loop-value.value-index in
    let v = c.value-item.result in
    let below = item_no_deeper vs i v c.loop-value-test.true c.value-item.is in
    let at = next_view vs i v c.loop-value-test.true c.value-item.is in
    (omega (arith, below, c.decreases), (element_suits c.args.plans.now c.args.id _ (view v) _ at c.loop-value.invariant.suits).0)

pub fields_length-length_of-len-requires : goal.fields_length-length_of-len-requires
fields_length-length_of-len-requires t c =
    let ds = field_datas c.args.values.now in
    let i = c.loop-i.i in
    let below = no_deeper ds i (view c.get.result.now) c.get.ensures in
    (omega (arith, below, c.decreases), (field_suits c.args.plans.now c.args.fields.now ds i c.index-fields-i.result (view c.get.result.now) c.loop-i.invariant.same c.get.ensures c.loop-i.invariant.suits).0)

pub fields_length-loop-i-preserved : goal.fields_length-loop-i-preserved
fields_length-loop-i-preserved t c =
    let P = c.args.plans.now in
    let gs = c.args.fields.now in
    let ds = field_datas c.args.values.now in
    let i = c.loop-i.i in
    let g = c.index-fields-i.result in
    let d = view c.get.result.now in
    let inv = c.loop-i.invariant in
    let next = ap length (field_spelled P gs ds i g d inv.same c.get.ensures) in
    let parts = length-append (plan_spell P (get_or gs i g).item d) (plan_spell_entries P (drop (i + 1) gs) (items_of (drop (i + 1) ds))) in
    record {
      fits = omega (arith, c.length_of-len.ensures, inv.fits);
      same = inv.same;
      suits = (field_suits P gs ds i g d inv.same c.get.ensures inv.suits).1;
      sum = omega (arith, c.length_of-len.ensures, next, parts, inv.sum, inv.fits);
    }
