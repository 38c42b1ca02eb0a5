use Rattle.std.proofs.Common.{◌≡◌, ◌+◌, ◌*◌, ◌^◌, ◌<◌, ◌≤◌, length, drop}
use Rattle.aidl_values.specs.Data.{depth_of, greatest}
use Rattle.aidl_values.specs.View.{datas, field_datas, items_of, view, view_element}
use Rattle.parcel_words.specs.Written.{with_bytes}
use Rattle.parcel_write.specs.steps.PlanSpell.{EachSuits, EntriesSuit, plan_spell_entries, plan_spell_items}
use Rattle.parcel_write.proofs.put.+put.Given as goal

-- with the elements that are left, all is written, and there is room for them
abbrev pub invariant-put_elements-loop-i : goal.invariant-put_elements-loop-i
invariant-put_elements-loop-i l = record {
  suits : EachSuits l.plans l.id (items_of (drop l.i (datas l.elements)));
  small : length (plan_spell_items l.plans l.id (items_of (drop l.i (datas l.elements)))) < 2 ^ 31;
  room : length (plan_spell_items l.plans l.id (items_of (drop l.i (datas l.elements)))) ≤ l.to.room;
  all : with_bytes l.to (plan_spell_items l.plans l.id (items_of (drop l.i (datas l.elements))))
      ≡ with_bytes l.initial.to (plan_spell_items l.plans l.id (items_of (datas l.elements)));
}

-- with the fields that are left, all is written, and there is room for them
abbrev pub invariant-put_fields-loop-i : goal.invariant-put_fields-loop-i
invariant-put_fields-loop-i l = record {
  same : length l.fields ≡ length (field_datas l.values);
  suits : EntriesSuit l.plans (drop l.i l.fields) (items_of (drop l.i (field_datas l.values)));
  small : length (plan_spell_entries l.plans (drop l.i l.fields) (items_of (drop l.i (field_datas l.values)))) < 2 ^ 31;
  room : length (plan_spell_entries l.plans (drop l.i l.fields) (items_of (drop l.i (field_datas l.values)))) ≤ l.to.room;
  all : with_bytes l.to (plan_spell_entries l.plans (drop l.i l.fields) (items_of (drop l.i (field_datas l.values))))
      ≡ with_bytes l.initial.to (plan_spell_entries l.plans l.fields (items_of (field_datas l.values)));
}

-- a value takes more steps than the list of its parts, and the list than each of them
abbrev pub decreases-put : goal.decreases-put
decreases-put l = 4 * depth_of (view l.value.now)

abbrev pub decreases-put_element : goal.decreases-put_element
decreases-put_element l = 4 * depth_of (view_element l.element.now) + 1

abbrev pub decreases-put_elements : goal.decreases-put_elements
decreases-put_elements l = 4 * greatest (items_of (datas l.elements.now)) + 2

abbrev pub decreases-put_record : goal.decreases-put_record
decreases-put_record l = 4 * greatest (items_of (field_datas l.values.now)) + 2

abbrev pub decreases-put_fields : goal.decreases-put_fields
decreases-put_fields l = 4 * greatest (items_of (field_datas l.values.now)) + 1
