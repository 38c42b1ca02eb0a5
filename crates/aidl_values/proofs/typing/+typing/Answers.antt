use Rattle.std.proofs.Common.{◌+◌, drop, ap, sym, ◌∙◌, arith}
use Rattle.std.specs.Prelude.{◌&&◌}
use Rattle.aidl_values.specs.View.{datas, field_datas, items_of, view, view_element}
use Rattle.aidl_values.specs.steps.TypeTest.{all_have_type, fields_have_type}
use Rattle.aidl_values.proofs.lemmas.Depths.{no_deeper}
use Rattle.aidl_values.proofs.TypeTests.{element_first, other_count, field_first}
use Rattle.aidl_values.proofs.typing.+typing.Goals as goal

pub are_of-is_element_of-requires : goal.are_of-is_element_of-requires
are_of-is_element_of-requires t c =
    let below = no_deeper (datas c.args.elements.now) c.loop-i.i (view_element c.get-it.result) c.get-it.ensures in
    (omega (arith, below, c.decreases), tt)

pub are_of-returns-then-not-is_element_of : goal.are_of-returns-then-not-is_element_of
are_of-returns-then-not-is_element_of t c =
    let S = c.args.schema.now.decls in
    let ds = datas c.args.elements.now in
    let i = c.loop-i.i in
    let e = element_first S c.args.ty ds i (view_element c.get-it.result) c.get-it.ensures in
    ap (λ b. b && all_have_type S c.args.ty (items_of (drop (i + 1) ds))) (sym c.if-not-is_element_of.true ∙ c.is_element_of.ensures) ∙ sym e ∙ c.loop-i.invariant

pub are_of-loop-i-preserved : goal.are_of-loop-i-preserved
are_of-loop-i-preserved t c =
    let S = c.args.schema.now.decls in
    let ds = datas c.args.elements.now in
    let i = c.loop-i.i in
    let e = element_first S c.args.ty ds i (view_element c.get-it.result) c.get-it.ensures in
    ap (λ b. b && all_have_type S c.args.ty (items_of (drop (i + 1) ds))) (sym c.if-not-is_element_of.false ∙ c.is_element_of.ensures) ∙ sym e ∙ c.loop-i.invariant

pub are_of_fields-is_of-requires : goal.are_of_fields-is_of-requires
are_of_fields-is_of-requires t c =
    let below = no_deeper (field_datas c.args.values.now) c.loop-i.i (view c.get-value.result.now) c.get-value.ensures in
    (omega (arith, below, c.decreases), tt)

pub are_of_fields-returns-then-fields-len : goal.are_of_fields-returns-then-fields-len
are_of_fields-returns-then-fields-len t c =
    other_count c.args.schema.now.decls c.args.fields.now (field_datas c.args.values.now) (λ same. c.if-fields-len.true (same ∙ sym c.len.ensures))

pub are_of_fields-returns-then-not-is_of : goal.are_of_fields-returns-then-not-is_of
are_of_fields-returns-then-not-is_of t c =
    let S = c.args.schema.now.decls in
    let ds = field_datas c.args.values.now in
    let i = c.loop-i.i in
    let e = field_first S c.args.fields.now ds i c.index-fields-i.result (view c.get-value.result.now)
    (omega (arith, c.loop-i-test.true, c.len.ensures, c.len-i-end.ensures, c.if-fields-len.false)) c.index-fields-i.is c.get-value.ensures in
    ap (λ b. b && fields_have_type S (drop (i + 1) c.args.fields.now) (items_of (drop (i + 1) ds))) (sym c.if-not-is_of.true ∙ c.is_of.ensures) ∙ sym e ∙ c.loop-i.invariant

pub are_of_fields-loop-i-preserved : goal.are_of_fields-loop-i-preserved
are_of_fields-loop-i-preserved t c =
    let S = c.args.schema.now.decls in
    let ds = field_datas c.args.values.now in
    let i = c.loop-i.i in
    let e = field_first S c.args.fields.now ds i c.index-fields-i.result (view c.get-value.result.now)
    (omega (arith, c.loop-i-test.true, c.len.ensures, c.len-i-end.ensures, c.if-fields-len.false)) c.index-fields-i.is c.get-value.ensures in
    ap (λ b. b && fields_have_type S (drop (i + 1) c.args.fields.now) (items_of (drop (i + 1) ds))) (sym c.if-not-is_of.false ∙ c.is_of.ensures) ∙ sym e ∙ c.loop-i.invariant
