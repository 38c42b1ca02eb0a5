use Rattle.std.proofs.Common.{◌≡◌, ◌-◌, ◌^◌, ◌+◌, ◌*◌, take, min}
use Rattle.aidl_values.specs.Data.{depth_of, greatest}
use Rattle.aidl_values.specs.View.{view, view_element, datas, field_datas, items_of}
use Rattle.aidl_values.proofs.depths.+depth.Given as goal

abbrev pub invariant-depth_of_elements-loop-i : goal.invariant-depth_of_elements-loop-i
invariant-depth_of_elements-loop-i l = l.most ≡ min (greatest (items_of (take l.i (datas l.elements)))) (2 ^ 64 - 1)

abbrev pub invariant-depth_of_fields-loop-i : goal.invariant-depth_of_fields-loop-i
invariant-depth_of_fields-loop-i l = l.most ≡ min (greatest (items_of (take l.i (field_datas l.fields)))) (2 ^ 64 - 1)

-- a value takes more steps than the list of its parts, and the list than each of them
abbrev pub decreases-depth : goal.decreases-depth
decreases-depth l = 3 * depth_of (view l.value.now)

abbrev pub decreases-depth_of_element : goal.decreases-depth_of_element
decreases-depth_of_element l = 3 * depth_of (view_element l.element.now) + 1

abbrev pub decreases-depth_of_elements : goal.decreases-depth_of_elements
decreases-depth_of_elements l = 3 * greatest (items_of (datas l.elements.now)) + 2

abbrev pub decreases-depth_of_fields : goal.decreases-depth_of_fields
decreases-depth_of_fields l = 3 * greatest (items_of (field_datas l.fields.now)) + 2
