use Rattle.std.proofs.Common.{◌+◌, ◌*◌, ◌++◌, codes, false, drop}
use Rattle.aidl_values.specs.Data.{depth_of, greatest}
use Rattle.aidl_values.specs.View.{datas, field_datas, items_of, view, view_element}
use Rattle.witness_command.specs.Texts.{parts_text}
use Rattle.witness_command.proofs.Parts.{Completes}
use Rattle.witness_command.proofs.values.+showing.Given as goal

-- what is left completes the text
abbrev pub invariant-push_sequence-loop-i : goal.invariant-push_sequence-loop-i
invariant-push_sequence-loop-i l =
    let ds = datas l.elements in
    Completes l.fn.text l.text l.later (items_of (drop l.i ds)) (codes "[" ++ parts_text false (items_of ds))

abbrev pub invariant-push_record-loop-i : goal.invariant-push_record-loop-i
invariant-push_record-loop-i l =
    let ds = field_datas l.fields in
    Completes l.fn.text l.text l.later (items_of (drop l.i ds)) (codes "{" ++ parts_text false (items_of ds))

-- a value takes more steps than the list of its parts, and the list than each of them
abbrev pub decreases-push_value : goal.decreases-push_value
decreases-push_value l = 3 * depth_of (view l.value.now)

abbrev pub decreases-push_sequence : goal.decreases-push_sequence
decreases-push_sequence l = 3 * greatest (items_of (datas l.elements.now)) + 2

abbrev pub decreases-push_element : goal.decreases-push_element
decreases-push_element l = 3 * depth_of (view_element l.element.now) + 1

abbrev pub decreases-push_record : goal.decreases-push_record
decreases-push_record l = 3 * greatest (items_of (field_datas l.fields.now)) + 2
