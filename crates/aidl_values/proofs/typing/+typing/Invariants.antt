use Rattle.std.proofs.Common.{◌≡◌, ◌+◌, ◌*◌, drop}
use Rattle.aidl_values.specs.Data.{depth_of, greatest}
use Rattle.aidl_values.specs.steps.TypeTest.{all_have_type, fields_have_type}
use Rattle.aidl_values.specs.View.{datas, field_datas, items_of, view, view_element}
use Rattle.aidl_values.proofs.typing.+typing.Given as goal

-- what is left decides
abbrev pub invariant-are_of-loop-i : goal.invariant-are_of-loop-i
invariant-are_of-loop-i l =
    all_have_type l.schema.decls l.ty (items_of (drop l.i (datas l.elements))) ≡ all_have_type l.schema.decls l.ty (items_of (datas l.elements))

abbrev pub invariant-are_of_fields-loop-i : goal.invariant-are_of_fields-loop-i
invariant-are_of_fields-loop-i l =
    fields_have_type l.schema.decls (drop l.i l.fields) (items_of (drop l.i (field_datas l.values))) ≡ fields_have_type l.schema.decls l.fields (items_of (field_datas l.values))

-- a value takes more steps than the list of its parts, and the list than each of them
abbrev pub decreases-is_of : goal.decreases-is_of
decreases-is_of l = 4 * depth_of (view l.value.now)

abbrev pub decreases-is_of_field : goal.decreases-is_of_field
decreases-is_of_field l = 4 * depth_of (view l.value.now) + 1

abbrev pub decreases-is_element_of : goal.decreases-is_element_of
decreases-is_element_of l = 4 * depth_of (view_element l.it.now) + 1

abbrev pub decreases-are_of : goal.decreases-are_of
decreases-are_of l = 4 * greatest (items_of (datas l.elements.now)) + 2

abbrev pub decreases-are_of_fields : goal.decreases-are_of_fields
decreases-are_of_fields l = 4 * greatest (items_of (field_datas l.values.now)) + 1
