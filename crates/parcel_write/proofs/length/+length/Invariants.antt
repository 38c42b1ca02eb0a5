use Rattle.std.proofs.Common.{◌≡◌, ◌+◌, ◌*◌, ◌≤◌, length, drop, min}
use Rattle.aidl_values.specs.Data.{depth_of, greatest}
use Rattle.aidl_values.specs.View.{datas, field_datas, items_of, view, views}
use Rattle.parcel_write.specs.steps.PlanSpell.{EachSuits, EntriesSuit, plan_spell_entries, plan_spell_items}
use Rattle.parcel_write.proofs.length.+length.Given as goal

-- with the values that are left, the length is that of all
abbrev pub invariant-values_length-loop-value : goal.invariant-values_length-loop-value
invariant-values_length-loop-value l = record {
  fits : l.len ≤ l.most;
  suits : EachSuits l.plans l.id (views (drop l.value-index l.values));
  sum : min (l.len + length (plan_spell_items l.plans l.id (views (drop l.value-index l.values)))) l.most
      ≡ min (length (plan_spell_items l.plans l.id (views l.values))) l.most;
}

-- with the fields that are left, the length is that of all
abbrev pub invariant-fields_length-loop-i : goal.invariant-fields_length-loop-i
invariant-fields_length-loop-i l = record {
  fits : l.len ≤ l.most;
  same : length l.fields ≡ length (field_datas l.values);
  suits : EntriesSuit l.plans (drop l.i l.fields) (items_of (drop l.i (field_datas l.values)));
  sum : min (l.len + length (plan_spell_entries l.plans (drop l.i l.fields) (items_of (drop l.i (field_datas l.values))))) l.most
      ≡ min (length (plan_spell_entries l.plans l.fields (items_of (field_datas l.values)))) l.most;
}

-- a value takes more steps than the list of its parts, and the list than each of them
abbrev pub decreases-length_of : goal.decreases-length_of
decreases-length_of l = 4 * depth_of (view l.value.now)

abbrev pub decreases-elements_length : goal.decreases-elements_length
decreases-elements_length l = 4 * greatest (items_of (datas l.elements.now)) + 2

abbrev pub decreases-values_length : goal.decreases-values_length
decreases-values_length l = 4 * greatest (views l.values.now) + 1

abbrev pub decreases-fields_length : goal.decreases-fields_length
decreases-fields_length l = 4 * greatest (items_of (field_datas l.values.now)) + 1
