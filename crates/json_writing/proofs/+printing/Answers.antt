use Rattle.std.proofs.Common.{◌≡◌, ◌<◌, ℕ, false, List, Some, None, map, length, slice_get, refl, sym, ap, subst, ◌∙◌, arith, rules}
use Rattle.std.proofs.lemmas.Grind.{common_steps}
use Rattle.std.proofs.lemmas.Option.{get_or_from_slice_get, slice_get_past, slice_get_read}
use Rattle.std.specs.Fmt.{decimal, signed_decimal}
use Rattle.std.specs.List.{All}
use Rattle.growing.specs.Grows.{Grows}
use Rattle.aidl_schema.specs.Types.{form_of}
use Rattle.aidl_schema.specs.declared.schema.AidlType.{AidlType}
use Rattle.aidl_schema.specs.declared.schema.Base.TheVariants.{Named}
use Rattle.aidl_schema.specs.declared.schema.Decl.{Decl}
use Rattle.aidl_values.specs.Data as value
use Rattle.aidl_values.specs.Data.{null}
use Rattle.aidl_values.specs.HasType.{HasType}
use Rattle.aidl_values.specs.View.{datas, field_datas, view, view_element}
use Rattle.aidl_values.proofs.lemmas.Depths.{no_deeper}
use Rattle.aidl_values.proofs.lemmas.Nexts.{next_of_rest}
use Rattle.json_writing.specs.Json.{fields_of_type}
use Rattle.json_writing.specs.Named.{enumerators_of, fields_in}
use Rattle.json_writing.specs.declared.members.Member.{Member}
use Rattle.json_writing.specs.steps.Members.{IsRow, IsTyped, value_at}
use Rattle.json_writing.specs.steps.Numbers.{row_of_texts, text_of_byte}
use Rattle.json_writing.proofs.Elements.{element_typed}
use Rattle.json_writing.proofs.Parts.{record_text, row_typed, typed_fields}
use Rattle.json_writing.proofs.SideBySide.{bytes_text, chars_text, ints_text, longs_text}
use Rattle.json_writing.proofs.+printing.Goals as goal

pub object_text::push_alternative-returns-in-Some-clause-text : goal.object_text::push_alternative-returns-in-Some-clause-text
unfolding lib.Utf8.encode
object_text::push_alternative-returns-in-Some-clause-text t c =
    let S = c.args.printer.now in
    let ty = c.args.ty.now in
    let k = c.args.tag in
    let f = c.in-Some.field.now in
    let fields = c.fields_of.result.now in
    let same : fields ≡ fields_of_type S ty = c.fields_of.ensures ∙ ap (λ (z : List Decl). fields_of_type z ty) c.printer.view_is in
    let there : slice_get (fields_of_type S ty) k ≡ Some f = subst (λ fs. slice_get fs k ≡ Some f) same (slice_get_read fields (length fields) k f refl c.in-Some.ensures.lookup.3.0 c.in-Some.ensures.lookup.1) in
    grind (arith, common_steps)

pub object_text::push_alternative-returns-in-None-clause-text : goal.object_text::push_alternative-returns-in-None-clause-text
object_text::push_alternative-returns-in-None-clause-text t c =
    let S = c.args.printer.now in
    let ty = c.args.ty.now in
    let fields = c.fields_of.result.now in
    let same : fields ≡ fields_of_type S ty = c.fields_of.ensures ∙ ap (λ (z : List Decl). fields_of_type z ty) c.printer.view_is in
    let there : slice_get (fields_of_type S ty) c.args.tag ≡ None = subst (λ fs. slice_get fs c.args.tag ≡ None) same (slice_get_past fields c.args.tag c.in-None.ensures.lookup.3) in
    grind (arith, common_steps)

pub object_text::push_members-push_value-requires : goal.object_text::push_members-push_value-requires
object_text::push_members-push_value-requires t c =
    let S = c.args.printer.now in
    let ds = field_datas c.args.values.now in
    let m = c.member-item.result in
    let d = view c.get.result.now in
    let lies : c.loop-member.member-index < length c.args.row.now = omega arith in
    let typed : IsTyped S ds m = subst (IsTyped S ds) (sym c.member-item.is) (c.requires.typed c.loop-member.member-index m lies) in
    let below = no_deeper ds m.place d c.get.ensures in
    let there : value_at ds m ≡ d = get_or_from_slice_get ds m.place d null c.get.ensures in (
      omega (arith, below, c.decreases),
      subst (λ (z : List Decl). HasType z m.ty d) (sym c.loop-member.invariant.same) (subst (λ (v : value.Data). HasType S m.ty v) there typed.1),
    )

pub object_text::push_members-loop-member-preserved : goal.object_text::push_members-loop-member-preserved
object_text::push_members-loop-member-preserved t c =
    let ds = field_datas c.args.values.now in
    let m = c.member-item.result in
    let d = view c.get.result.now in
    let there : value_at ds m ≡ d = get_or_from_slice_get ds m.place d null c.get.ensures in
    record { same = search rules; text = grind (arith, common_steps) }

-- the row of a declaration is that of a type of this base
row_of : (S made : List Decl) (t : AidlType) (n : ℕ) (row : List Member) → made ≡ S → t.base ≡ Named n → IsRow (fields_in (form_of made (Named n))) row → IsRow (fields_of_type S t) row
row_of S made t n row same is of = subst (λ fs. IsRow fs row) (ap (λ (z : List Decl). fields_in (form_of z (Named n))) same ∙ ap (λ b. fields_in (form_of S b)) (sym is)) of

pub object_text::push_record-push_members-requires : goal.object_text::push_record-push_members-requires
object_text::push_record-push_members-requires t c =
    let S = c.args.printer.now in
    let ty = c.args.ty.now in
    let ds = field_datas c.args.values.now in
    let row = c.in-Ok.row.value.items in
    let is = row_of S c.printer.inside.rows.schema.now.decls ty c.in-Named.decl row (c.printer.invariant.rows ∙ c.printer.view_is) c.in-Named.is c.in-Ok.ensures.row in
    let all : All (IsTyped S ds) row = row_typed S (fields_of_type S ty) ds row (typed_fields S ty ds c.requires) is.1 in (
      search rules,
      subst (λ (z : List Decl). All (IsTyped z ds) c.as_slice.result.now) (sym c.printer.view_is)
          (subst (All (IsTyped S ds)) (sym (c.as_slice.ensures.value ∙ ap (λ v. v.items) c.deref.ensures)) all),
    )

pub object_text::push_record-returns-in-Ok-clause-text : goal.object_text::push_record-returns-in-Ok-clause-text
unfolding lib.Utf8.encode
object_text::push_record-returns-in-Ok-clause-text t c =
    let S = c.args.printer.now in
    let ty = c.args.ty.now in
    let row = c.in-Ok.row.value.items in
    let is = row_of S c.printer.inside.rows.schema.now.decls ty c.in-Named.decl row (c.printer.invariant.rows ∙ c.printer.view_is) c.in-Named.is c.in-Ok.ensures.row in
    let written = record_text S ty (field_datas c.args.values.now) c.printer.inside.schema.now.decls row c.as_slice.result.now c.requires is c.printer.view_is (c.as_slice.ensures.value ∙ ap (λ v. v.items) c.deref.ensures) in
    grind (arith, common_steps)

pub sequence_text::push_each-push_element-requires : goal.sequence_text::push_each-push_element-requires
sequence_text::push_each-push_element-requires t c =
    let ds = datas c.args.elements.now in
    let d = view_element c.get.result in
    let below = no_deeper ds c.loop-i.i d c.get.ensures in
    (omega (arith, below, c.decreases), element_typed c.args.printer.now c.args.ty.now c.loop-i.printer ds c.loop-i.i d c.loop-i.invariant.same c.get.ensures c.requires)

pub sequence_text::push_each-loop-i-preserved : goal.sequence_text::push_each-loop-i-preserved
sequence_text::push_each-loop-i-preserved t c =
    let next = next_of_rest (datas c.args.elements.now) c.loop-i.i (view_element c.get.result) c.get.ensures in
    record { same = search rules; text = grind (arith, common_steps) }

pub sequence_text::push_elements-returns-in-Bytes-clause-text : goal.sequence_text::push_elements-returns-in-Bytes-clause-text
sequence_text::push_elements-returns-in-Bytes-clause-text t c =
    let S = c.args.printer.now in
    let unnamed : enumerators_of S c.args.ty.now.base ≡ None = search rules in
    subst (λ (z : List ℕ). Grows c.args.text.now c.push_bytes.new.text z)
    (ap (λ xs. row_of_texts false (map text_of_byte xs)) c.as_slice.ensures ∙ bytes_text S c.args.ty.now unnamed c.args.elements.now c.in-Bytes.bytes c.in-Bytes.is)
    c.push_bytes.ensures

pub sequence_text::push_elements-returns-in-Chars-clause-text : goal.sequence_text::push_elements-returns-in-Chars-clause-text
sequence_text::push_elements-returns-in-Chars-clause-text t c =
    let S = c.args.printer.now in
    let unnamed : enumerators_of S c.args.ty.now.base ≡ None = search rules in
    subst (λ (z : List ℕ). Grows c.args.text.now c.push_numbers.new.text z)
    (ap (λ xs. row_of_texts false (map decimal xs)) c.as_slice-in-Chars.ensures ∙ chars_text S c.args.ty.now unnamed c.args.elements.now c.in-Chars.units c.in-Chars.is)
    c.push_numbers.ensures

pub sequence_text::push_elements-returns-in-Ints-clause-text : goal.sequence_text::push_elements-returns-in-Ints-clause-text
sequence_text::push_elements-returns-in-Ints-clause-text t c =
    let S = c.args.printer.now in
    let unnamed : enumerators_of S c.args.ty.now.base ≡ None = search rules in
    subst (λ (z : List ℕ). Grows c.args.text.now c.push_numbers-in-Ints.new.text z)
    (ap (λ xs. row_of_texts false (map signed_decimal xs)) c.as_slice-in-Ints.ensures ∙ ints_text S c.args.ty.now unnamed c.args.elements.now c.in-Ints.ints c.in-Ints.is)
    c.push_numbers-in-Ints.ensures

pub sequence_text::push_elements-returns-in-Longs-clause-text : goal.sequence_text::push_elements-returns-in-Longs-clause-text
sequence_text::push_elements-returns-in-Longs-clause-text t c =
    let S = c.args.printer.now in
    let unnamed : enumerators_of S c.args.ty.now.base ≡ None = search rules in
    subst (λ (z : List ℕ). Grows c.args.text.now c.push_numbers-in-Longs.new.text z)
    (ap (λ xs. row_of_texts false (map signed_decimal xs)) c.as_slice-in-Longs.ensures ∙ longs_text S c.args.ty.now unnamed c.args.elements.now c.in-Longs.longs c.in-Longs.is)
    c.push_numbers-in-Longs.ensures
