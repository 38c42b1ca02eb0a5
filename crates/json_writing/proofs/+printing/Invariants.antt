use Rattle.std.proofs.Common.{◌≡◌, ◌+◌, ◌*◌, false, drop}
use Rattle.serde_json.specs.Written.{items_text}
use Rattle.aidl_values.specs.Data.{depth_of, greatest}
use Rattle.aidl_values.specs.View.{datas, field_datas, items_of, view, view_element}
use Rattle.json_writing.specs.Json.{json_items}
use Rattle.json_writing.specs.steps.Completes.{Completes}
use Rattle.json_writing.specs.steps.Members.{part_text, row_text}
use Rattle.json_writing.proofs.+printing.Given as goal

-- what is left completes the text
abbrev pub invariant-sequence_text::push_each-loop-i : goal.invariant-sequence_text::push_each-loop-i
invariant-sequence_text::push_each-loop-i l = record {
  same : l.printer ≡ l.fn.printer;
  text : Completes l.fn.text l.text (items_text l.later (json_items l.fn.printer l.ty (items_of (drop l.i (datas l.elements)))))
      (items_text false (json_items l.fn.printer l.ty (items_of (datas l.elements))));
}

-- what is left completes the text
abbrev pub invariant-object_text::push_members-loop-member : goal.invariant-object_text::push_members-loop-member
invariant-object_text::push_members-loop-member l = record {
  same : l.printer ≡ l.fn.printer;
  text : Completes l.fn.text l.text (row_text (part_text l.fn.printer (field_datas l.values)) (drop l.member-index l.row))
      (row_text (part_text l.fn.printer (field_datas l.values)) l.row);
}

-- a value takes more steps than the list of its parts, and the list than each of them
abbrev pub decreases-printer::JsonPrinter::push_value : goal.decreases-printer::JsonPrinter::push_value
decreases-printer::JsonPrinter::push_value l = 5 * depth_of (view l.value.now)

abbrev pub decreases-sequence_text::push_sequence : goal.decreases-sequence_text::push_sequence
decreases-sequence_text::push_sequence l = 5 * greatest (items_of (datas l.elements.now)) + 4

abbrev pub decreases-sequence_text::push_elements : goal.decreases-sequence_text::push_elements
decreases-sequence_text::push_elements l = 5 * greatest (items_of (datas l.elements.now)) + 3

abbrev pub decreases-sequence_text::push_each : goal.decreases-sequence_text::push_each
decreases-sequence_text::push_each l = 5 * greatest (items_of (datas l.elements.now)) + 2

abbrev pub decreases-sequence_text::push_element : goal.decreases-sequence_text::push_element
decreases-sequence_text::push_element l = 5 * depth_of (view_element l.element) + 1

abbrev pub decreases-object_text::push_record : goal.decreases-object_text::push_record
decreases-object_text::push_record l = 5 * greatest (items_of (field_datas l.values.now)) + 2

abbrev pub decreases-object_text::push_members : goal.decreases-object_text::push_members
decreases-object_text::push_members l = 5 * greatest (items_of (field_datas l.values.now)) + 1

abbrev pub decreases-object_text::push_alternative : goal.decreases-object_text::push_alternative
decreases-object_text::push_alternative l = 5 * depth_of (view l.value.now) + 1
