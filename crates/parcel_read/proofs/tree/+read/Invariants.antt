use Rattle.std.proofs.Common.{◌≡◌, ◌+◌, ◌-◌, ◌*◌, true, length, map, drop}
use Rattle.aidl_values.specs.View.{view}
use Rattle.parcel_words.specs.Place.{left, is_inside, MovesOn}
use Rattle.wire_model.specs.ReadOf.{each_at, fields_at}
use Rattle.aidl_values.proofs.lemmas.Fronts.{with_front}
use Rattle.parcel_read.proofs.Loop.{with_items}
use Rattle.parcel_read.proofs.tree.+read.Given as goal
use Rattle.parcel_read.specs.steps.PlanDefault.{initial_by_plan}
use Rattle.parcel_read.specs.steps.PlanRead.{plan_parts}

abbrev pub decreases-value_from : goal.decreases-value_from
decreases-value_from l = 8 * l.levels + 7

abbrev pub decreases-item_from : goal.decreases-item_from
decreases-item_from l = 8 * l.levels + 6

abbrev pub decreases-sequence_from : goal.decreases-sequence_from
decreases-sequence_from l = 8 * l.levels + 4

abbrev pub decreases-elements_from : goal.decreases-elements_from
decreases-elements_from l = 8 * l.levels + 3

abbrev pub decreases-row_from : goal.decreases-row_from
decreases-row_from l = 8 * l.levels + 2

abbrev pub decreases-items_from : goal.decreases-items_from
decreases-items_from l = 8 * l.levels

abbrev pub decreases-record_from : goal.decreases-record_from
decreases-record_from l = 8 * l.levels + 5

abbrev pub decreases-body_from : goal.decreases-body_from
decreases-body_from l = 8 * l.levels + 4

abbrev pub decreases-fields_from : goal.decreases-fields_from
decreases-fields_from l = 8 * l.levels + 1

abbrev pub decreases-union_from : goal.decreases-union_from
decreases-union_from l = 8 * l.levels + 5

abbrev pub decreases-tagged_from : goal.decreases-tagged_from
decreases-tagged_from l = 8 * l.levels + 4

-- what was read before, and what is still read, are all; and the reader stands between them
abbrev pub invariant-items_from-loop : goal.invariant-items_from-loop
invariant-items_from-loop l = record {
  read : with_items (map view l.values.items) (each_at (λ b. plan_parts l.initial.from.profile l.initial.plans l.levels l.element (is_inside l.initial.from) b) (l.count - l.counter) (left l.from))
      ≡ each_at (λ b. plan_parts l.initial.from.profile l.initial.plans l.levels l.element (is_inside l.initial.from) b) l.count (left l.initial.from);
  on : MovesOn l.initial.from l.from;
  same : l.plans ≡ l.initial.plans;
}

abbrev pub invariant-fields_from-loop-field : goal.invariant-fields_from-loop-field
invariant-fields_from-loop-field l = record {
  read : with_front (map view l.values.items) (fields_at (λ g. initial_by_plan l.initial.plans g) (λ g b. plan_parts l.initial.from.profile l.initial.plans l.levels g.item true b) (drop l.field-index l.field-items) (left l.from))
      ≡ fields_at (λ g. initial_by_plan l.initial.plans g) (λ g b. plan_parts l.initial.from.profile l.initial.plans l.levels g.item true b) l.field-items (left l.initial.from);
  many : length l.values.items ≡ l.field-index;
  on : MovesOn l.initial.from l.from;
  same : l.plans ≡ l.initial.plans;
}
