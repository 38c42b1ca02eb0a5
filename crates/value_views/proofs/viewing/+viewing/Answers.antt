use Rattle.std.proofs.Common.{◌≡◌, ℤ, pos, List, Option, Some, None, IfOk, inl, inr, sym, ap, ◌∙◌, map, subst, arith}
use Rattle.std.specs.Int.{w8, cast_signed}
use Rattle.std.specs.Prelude.{option_map}
use Rattle.std.specs.Option.{option_copied}
use Rattle.aidl_schema.specs.declared.schema.Field.{Field}
use Rattle.aidl_schema.specs.Types.{form_of}
use Rattle.aidl_values.specs.Data.{Data, truth, number, alt, rec}
use Rattle.aidl_values.specs.View.{datas, field_datas, items_of, view, views}
use Rattle.aidl_values.proofs.lemmas.Depths.{no_deeper, item_no_deeper}
use Rattle.aidl_values.proofs.lemmas.Views.{datas_truths, datas_bytes, datas_chars, datas_ints, datas_longs}
use Rattle.wire_model.specs.Spell.{parcelable_fields, union_fields}
use Rattle.wire_model.specs.View.{view_of, view_items, each_field}
use Rattle.value_views.specs.steps.Places.{below, place_named}
use Rattle.value_views.specs.steps.Seen.{AreThemselves, field_view, with_seen}
use Rattle.value_views.proofs.Forms.{seen_alt}
use Rattle.value_views.proofs.Seen.{alternative, no_alternative, nowhere_seen, there_seen, seen_rec, collected, complete, drop_all, next_field, next_item}
use Rattle.value_views.proofs.SideBySide.{are_themselves}
use Rattle.value_views.proofs.viewing.+viewing.Goals as goal

pub view_alternative-returns-in_ok-new-in-Some-2 :
    goal.view_alternative-returns-in_ok-new-in-Some-2
view_alternative-returns-in_ok-new-in-Some-2 t c =
    let k = c.in-Some-place_in_union.place in
    let f = c.in-Some.field.now in
    let g = c.index-fields-place.result in
    let seen : view_of c.args.sender.now f.ty c.args.receiver.now g.ty (view c.args.value.now) ≡ Some (view c.in-Some-2.view) =
    ap (λ (g : Field). view_of c.args.sender.now f.ty c.args.receiver.now g.ty (view c.args.value.now)) c.index-fields-place.is ∙ sym c.in_ok-view.ensures ∙ ap (option_map view) c.in-Some-2.is in
    ap (λ d. let o : Option Data = Some d in o) (seen_alt k c.in_ok-new-in-Some-2.field-0)
    ∙ ap (λ v. let o : Option Data = Some (alt k (view v)) in o) c.in_ok-new-in-Some-2.ensures.ok
    ∙ alternative c.args.sender.now c.args.receiver.now (option_copied c.args.sent) f (ap option_copied c.in-Some.is) (view c.args.value.now) (union_fields (form_of c.args.receiver.now c.args.base))
    c.union_fields-fields.result.now k g (Some (view c.in-Some-2.view)) c.union_fields-fields.ensures.fields c.in-Some-place_in_union.ensures.place c.in-Some-place_in_union.ensures.within c.index-fields-place.is seen

pub view_alternative-returns-in-None : goal.view_alternative-returns-in-None
view_alternative-returns-in-None t c =
    let k = c.in-Some-place_in_union.place in
    let f = c.in-Some.field.now in
    let g = c.index-fields-place.result in
    let seen : view_of c.args.sender.now f.ty c.args.receiver.now g.ty (view c.args.value.now) ≡ None =
    ap (λ (g : Field). view_of c.args.sender.now f.ty c.args.receiver.now g.ty (view c.args.value.now)) c.index-fields-place.is ∙ sym c.in_ok-view.ensures ∙ ap (option_map view) c.in-None.is in
    alternative c.args.sender.now c.args.receiver.now (option_copied c.args.sent) f (ap option_copied c.in-Some.is) (view c.args.value.now) (union_fields (form_of c.args.receiver.now c.args.base))
    c.union_fields-fields.result.now k g None c.union_fields-fields.ensures.fields c.in-Some-place_in_union.ensures.place c.in-Some-place_in_union.ensures.within c.index-fields-place.is seen

pub view_alternative-returns-in_default-place_in_union : goal.view_alternative-returns-in_default-place_in_union
view_alternative-returns-in_default-place_in_union t c =
    no_alternative c.args.sender.now c.args.receiver.now (option_copied c.args.sent) c.in-Some.field.now (ap option_copied c.in-Some.is) (view c.args.value.now)
    (union_fields (form_of c.args.receiver.now c.args.base)) (sym c.in_default-place_in_union.is ∙ c.place_in_union.ensures.place)

pub view_field-returns-in-None : goal.view_field-returns-in-None
view_field-returns-in-None t c =
    let fields = parcelable_fields (form_of c.args.sender.now c.args.base) in
    let at = c.place_sent.ensures.place ∙ ap (λ n. below n (place_named c.args.field.now.name.0 fields)) c.len.ensures in
    subst (λ z. IfOk c.some_initial.result (λ o. option_map view o ≡ z))
    (nowhere_seen c.args.sender.now c.args.receiver.now c.args.field.now fields (field_datas c.args.values.now) c.place_sent.result at c.in-None.is) c.some_initial.ensures

pub view_field-returns-in-Some : goal.view_field-returns-in-Some
view_field-returns-in-Some t c =
    let f = c.index-sent-place.result in
    let d = view c.get-value.result.now in
    subst (λ z. IfOk c.view_value.result (λ o. option_map view o ≡ z))
    (sym (ap (λ (f : Field). view_of c.args.sender.now f.ty c.args.receiver.now c.args.field.now.ty d) c.index-sent-place.is)
    ∙ there_seen c.args.sender.now c.args.receiver.now c.args.field.now (parcelable_fields (form_of c.args.sender.now c.args.base)) (field_datas c.args.values.now) c.len.result c.in-Some.place
    c.parcelable_fields-sent.result.now f d c.in-Some.ensures.place c.parcelable_fields-sent.ensures c.in-Some.ensures.within c.index-sent-place.is c.get-value.ensures)
    c.view_value.ensures

pub view_field-view_value-requires : goal.view_field-view_value-requires
view_field-view_value-requires t c =
    let inside = no_deeper (field_datas c.args.values.now) c.in-Some.place (view c.get-value.result.now) c.get-value.ensures in
    (omega (arith, inside, c.decreases), tt)

pub view_sequence-view_row-requires : goal.view_sequence-view_row-requires
view_sequence-view_row-requires t c =
    let es = c.args.elements.now in
    let by : (ds : List Data) → AreThemselves ds → datas es ≡ ds → AreThemselves (datas es) = λ ds h is. subst (λ ds. AreThemselves ds) (sym is) h in
    let numbers : (ns : List ℤ) → AreThemselves (map number ns) = λ ns. are_themselves number (λ n. tt) ns in
    elim c.in-Truths.is [
      | inl e ↦ by (map truth e.0) (are_themselves truth (λ b. tt) e.0) (ap datas e.1 ∙ datas_truths e.0)
      | inr f ↦ elim f [
        | inl e ↦ by (map number (map (λ b. cast_signed w8 b) e.0)) (numbers (map (λ b. cast_signed w8 b) e.0)) (ap datas e.1 ∙ datas_bytes e.0)
        | inr g ↦ elim g [
          | inl e ↦ by (map number (map pos e.0)) (numbers (map pos e.0)) (ap datas e.1 ∙ datas_chars e.0)
          | inr h ↦ elim h [
            | inl e ↦ by (map number e.0) (numbers e.0) (ap datas e.1 ∙ datas_ints e.0)
            | inr e ↦ by (map number e.0) (numbers e.0) (ap datas e.1 ∙ datas_longs e.0)
          ]
        ]
      ]
    ]

pub view_items-view_value-requires : goal.view_items-view_value-requires
view_items-view_value-requires t c =
    let inside = item_no_deeper c.args.values.now c.loop-value.value-index c.value-item.result c.loop-value-test.true c.value-item.is in
    (omega (arith, inside, c.decreases), tt)

pub view_items-loop-value-preserved : goal.view_items-loop-value-preserved
view_items-loop-value-preserved t c =
    let next = next_item c.args.sender.now c.args.t c.args.receiver.now c.args.u c.args.values.now c.loop-value.value-index c.value-item.result c.loop-value-test.true c.value-item.is in
    collected c.loop-value.seen.items c.in-Some.view c.push.new.self.items (view_of c.args.sender.now c.args.t c.args.receiver.now c.args.u (view c.value-item.result)) _ _
    (sym c.in_ok-view.ensures ∙ ap (option_map view) c.in-Some.is) c.in_ok-push-in-Some.ensures.items (ap (with_seen (map view c.loop-value.seen.items)) (sym next) ∙ c.loop-value.invariant)

pub view_items-returns : goal.view_items-returns
view_items-returns t c =
    let done = drop_all c.args.values.now c.loop-value.value-index c.loop-value-test.false in
    complete c.loop-value.seen.items c.from_vec.result _ c.from_vec.ensures
    (ap (λ vs. with_seen (map view c.loop-value.seen.items) (view_items c.args.sender.now c.args.t c.args.receiver.now c.args.u (views vs))) (sym done) ∙ c.loop-value.invariant)

pub view_record-loop-field-preserved : goal.view_record-loop-field-preserved
view_record-loop-field-preserved t c =
    let F = field_view c.args.sender.now (parcelable_fields (form_of c.args.sender.now c.args.base)) c.args.receiver.now (items_of (field_datas c.args.values.now)) in
    let next = next_field F c.parcelable_fields-fields.result.now c.loop-field.field-index c.field-item.result c.loop-field-test.true c.field-item.is in
    collected c.loop-field.seen.items c.in-Some.view c.push.new.self.items (F c.field-item.result) _ _
    (sym c.in_ok-view.ensures ∙ ap (option_map view) c.in-Some.is) c.in_ok-push-in-Some.ensures.items (ap (with_seen (map view c.loop-field.seen.items)) (sym next) ∙ c.loop-field.invariant)

pub view_record-returns : goal.view_record-returns
view_record-returns t c =
    let F = field_view c.args.sender.now (parcelable_fields (form_of c.args.sender.now c.args.base)) c.args.receiver.now (items_of (field_datas c.args.values.now)) in
    let fields = c.parcelable_fields-fields.result.now in
    let done = drop_all fields c.loop-field.field-index c.loop-field-test.false in
    let all = complete c.loop-field.seen.items c.from_vec.result _ c.from_vec.ensures (ap (λ gs. with_seen (map view c.loop-field.seen.items) (each_field F gs)) (sym done) ∙ c.loop-field.invariant) in
    ap (λ d. let o : Option Data = Some d in o) (seen_rec c.from_vec.result) ∙ ap (option_map rec) (all ∙ ap (each_field F) c.parcelable_fields-fields.ensures)
