use Rattle.std.proofs.Common.{◌≡◌, ◌+◌, ◌*◌, drop, map, take}
use Rattle.serde_json.specs.View.{view as json_view, members_view}
use Rattle.aidl_values.specs.Data.{depth_of, greatest}
use Rattle.aidl_values.specs.View.{datas, field_datas, items_of, view, view_element}
use Rattle.json_writing.specs.Json.{json_of, json_members}
use Rattle.json_writing.proofs.writing.+writing.Given as goal

-- the fields from here on are in
abbrev pub invariant-write_fields-loop-i : goal.invariant-write_fields-loop-i
invariant-write_fields-loop-i l = record {
  same : l.names ≡ l.fn.names;
  members : members_view l.members.entries ≡ json_members l.schema.decls (drop l.i l.fields) (items_of (drop l.i (field_datas l.values)));
}

abbrev pub invariant-write_elements-loop-i : goal.invariant-write_elements-loop-i
invariant-write_elements-loop-i l = record {
  same : l.names ≡ l.fn.names;
  items : map json_view l.items.items ≡ map (λ d. json_of l.schema.decls l.ty d) (take l.i (datas l.elements));
}

-- a value takes more steps than the list of its parts, and the list than each of them
abbrev pub decreases-write : goal.decreases-write
decreases-write l = 3 * depth_of (view l.value.now)

abbrev pub decreases-write_elements : goal.decreases-write_elements
decreases-write_elements l = 3 * greatest (items_of (datas l.elements.now)) + 2

abbrev pub decreases-write_element : goal.decreases-write_element
decreases-write_element l = 3 * depth_of (view_element l.element) + 1

abbrev pub decreases-write_fields : goal.decreases-write_fields
decreases-write_fields l = 3 * greatest (items_of (field_datas l.values.now)) + 1

abbrev pub decreases-write_alternative : goal.decreases-write_alternative
decreases-write_alternative l = 3 * depth_of (view l.value.now) + 1
