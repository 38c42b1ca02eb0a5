use Rattle.std.proofs.Common.{◌+◌, ◌++◌, codes, drop, false, ap, arith}
use Rattle.aidl_values.specs.View.{datas, field_datas, items_of, view, view_element}
use Rattle.aidl_values.proofs.lemmas.Depths.{no_deeper}
use Rattle.aidl_values.proofs.lemmas.Nexts.{next_of_rest}
use Rattle.witness_command.specs.Texts.{parts_text}
use Rattle.witness_command.proofs.Parts.{part_added}
use Rattle.witness_command.proofs.values.+showing.Goals as goal

pub push_sequence-push_element-requires : goal.push_sequence-push_element-requires
push_sequence-push_element-requires t c =
    let below = no_deeper (datas c.args.elements.now) c.loop-i.i (view_element c.get-element.result) c.get-element.ensures in
    (omega (arith, below, c.decreases), tt)

pub push_sequence-loop-i-preserved : goal.push_sequence-loop-i-preserved
push_sequence-loop-i-preserved t c =
    let ds = datas c.args.elements.now in
    let i = c.loop-i.i in
    let d = view_element c.get-element.result in
    part_added c.args.text.now c.loop-i.text c.push_comma_if.new.text c.push_element.new.text c.loop-i.later d (items_of (drop i ds)) (items_of (drop (i + 1) ds))
    (codes "[" ++ parts_text false (items_of ds)) (ap items_of (next_of_rest ds i d c.get-element.ensures)) c.push_comma_if.ensures c.push_element.ensures c.loop-i.invariant

pub push_record-push_value-requires : goal.push_record-push_value-requires
push_record-push_value-requires t c =
    let below = no_deeper (field_datas c.args.fields.now) c.loop-i.i (view c.get.result.now) c.get.ensures in
    (omega (arith, below, c.decreases), tt)

pub push_record-loop-i-preserved : goal.push_record-loop-i-preserved
push_record-loop-i-preserved t c =
    let ds = field_datas c.args.fields.now in
    let i = c.loop-i.i in
    let d = view c.get.result.now in
    part_added c.args.text.now c.loop-i.text c.push_comma_if.new.text c.push_value.new.text c.loop-i.later d (items_of (drop i ds)) (items_of (drop (i + 1) ds))
    (codes "{" ++ parts_text false (items_of ds)) (ap items_of (next_of_rest ds i d c.get.ensures)) c.push_comma_if.ensures c.push_value.ensures c.loop-i.invariant
