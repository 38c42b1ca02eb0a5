use Rattle.std.proofs.Common.{◌≡◌, ◌+◌, ◌*◌, ◌-◌, drop, length, map, take}
use Rattle.std.specs.List.{count_by}
use Rattle.serde_json.specs.Find.{get_member}
use Rattle.serde_json.specs.View.{items_view, members_view}
use Rattle.aidl_values.specs.View.{view}
use Rattle.json_values.specs.FromJson.{items_from, fields_from}
use Rattle.aidl_values.proofs.lemmas.Fronts.{with_front}
use Rattle.json_values.proofs.+reading.Given as goal
use Rattle.json_values.specs.steps.Defaults.{datas_of}
use Rattle.json_values.specs.steps.Given.{AreGiven, filled, is_found}
use Rattle.json_values.specs.steps.Levels.{part_from, default_of}

abbrev pub decreases-reading::read_within : goal.decreases-reading::read_within
decreases-reading::read_within l = 10 * l.levels + 9

abbrev pub decreases-reading::read_part : goal.decreases-reading::read_part
decreases-reading::read_part l = 10 * l.levels

abbrev pub decreases-reading::read : goal.decreases-reading::read
decreases-reading::read l = 10 * l.levels + 8

abbrev pub decreases-reading::read_one : goal.decreases-reading::read_one
decreases-reading::read_one l = 10 * l.levels + 7

abbrev pub decreases-sequences::read_sequence : goal.decreases-sequences::read_sequence
decreases-sequences::read_sequence l = 10 * l.levels + 5

abbrev pub decreases-records::read_record : goal.decreases-records::read_record
decreases-records::read_record l = 10 * l.levels + 6

abbrev pub decreases-unions::read_union : goal.decreases-unions::read_union
decreases-unions::read_union l = 10 * l.levels + 4

abbrev pub decreases-sequences::read_items : goal.decreases-sequences::read_items
decreases-sequences::read_items l = 10 * l.levels + 3

abbrev pub decreases-records::read_fields : goal.decreases-records::read_fields
decreases-records::read_fields l = 10 * l.levels + 4

abbrev pub decreases-records::read_behind : goal.decreases-records::read_behind
decreases-records::read_behind l = 10 * l.levels + 3

abbrev pub decreases-records::read_given : goal.decreases-records::read_given
decreases-records::read_given l = 10 * l.levels + 1

abbrev pub decreases-unions::read_alternative : goal.decreases-unions::read_alternative
decreases-unions::read_alternative l = 10 * l.levels + 3

abbrev pub decreases-unions::read_chosen : goal.decreases-unions::read_chosen
decreases-unions::read_chosen l = 10 * l.levels + 1

abbrev pub decreases-sequences::read_item : goal.decreases-sequences::read_item
decreases-sequences::read_item l = 10 * l.levels + 1

abbrev pub decreases-records::read_field : goal.decreases-records::read_field
decreases-records::read_field l = 10 * l.levels + 2

abbrev pub invariant-sequences::read_items-loop-i : goal.invariant-sequences::read_items-loop-i
invariant-sequences::read_items-loop-i l = record {
  read : with_front (map view l.values.items) (items_from (λ j. part_from l.fn.reader l.levels l.ty j) l.i (items_view (drop l.i l.items)))
      ≡ items_from (λ j. part_from l.fn.reader l.levels l.ty j) 0 (items_view l.items);
  same : l.reader ≡ l.fn.reader;
}

abbrev pub invariant-records::read_fields-loop-field : goal.invariant-records::read_fields-loop-field
invariant-records::read_fields-loop-field l = record {
  read : with_front (map view l.values.items) (fields_from (λ f. default_of l.fn.reader l.levels f) (λ u j. part_from l.fn.reader l.levels u j) (drop l.field-index l.fields) (λ key. get_member key (members_view l.members.entries)))
      ≡ fields_from (λ f. default_of l.fn.reader l.levels f) (λ u j. part_from l.fn.reader l.levels u j) l.fields (λ key. get_member key (members_view l.members.entries));
  many : length l.values.items ≡ l.field-index;
  found : l.field-index ≡ count_by (is_found (members_view l.members.entries)) (take l.field-index l.fields);
  same : l.reader ≡ l.fn.reader;
}

abbrev pub invariant-records::read_behind-loop-i : goal.invariant-records::read_behind-loop-i
invariant-records::read_behind-loop-i l = record {
  read : with_front (filled l.given (take l.i (datas_of l.defaults.value))) (fields_from (λ f. default_of l.fn.reader l.levels f) (λ u j. part_from l.fn.reader l.levels u j) (drop l.i l.fields) (λ key. get_member key (members_view l.members.entries)))
      ≡ fields_from (λ f. default_of l.fn.reader l.levels f) (λ u j. part_from l.fn.reader l.levels u j) l.fields (λ key. get_member key (members_view l.members.entries));
  given : AreGiven l.given l.i;
  found : length l.given.values.items ≡ count_by (is_found (members_view l.members.entries)) (take l.i l.fields);
  same : l.reader ≡ l.fn.reader;
}

abbrev pub decreases-records::read_behind-loop-i : goal.decreases-records::read_behind-loop-i
decreases-records::read_behind-loop-i l = length l.fields - l.i

abbrev pub decreases-sequences::read_elements : goal.decreases-sequences::read_elements
decreases-sequences::read_elements l = 10 * l.levels + 4

abbrev pub decreases-records::read_object : goal.decreases-records::read_object
decreases-records::read_object l = 10 * l.levels + 5
