use Rattle.std.proofs.Common.{◌≡◌, ◌+◌, ◌-◌, ◌*◌, ◌++◌, true, List, drop}
use Rattle.std.specs.Prelude.{string_bytes}
use Rattle.parcel_words.specs.Place.{left, is_inside, MovesOn}
use Rattle.parcel_explain.specs.Items.{elements_items, fields_items}
use Rattle.parcel_explain.specs.Noted.{Part, behind}
use Rattle.parcel_explain.specs.steps.Notes.{part_items}
use Rattle.parcel_explain.specs.steps.Stems.{IsStem}
use Rattle.parcel_explain.proofs.Steps.{of_parts}
use Rattle.parcel_explain.proofs.values.+note.Given as goal

abbrev pub decreases-value_items : goal.decreases-value_items
decreases-value_items l = 8 * l.spot.now.levels + 7

abbrev pub decreases-one_items : goal.decreases-one_items
decreases-one_items l = 8 * l.spot.now.levels + 6

abbrev pub decreases-sequence_items : goal.decreases-sequence_items
decreases-sequence_items l = 8 * l.spot.now.levels + 4

abbrev pub decreases-counted_items : goal.decreases-counted_items
decreases-counted_items l = 8 * l.spot.now.levels + 3

abbrev pub decreases-elements_items : goal.decreases-elements_items
decreases-elements_items l = 8 * l.spot.now.levels + 1

abbrev pub decreases-each_items : goal.decreases-each_items
decreases-each_items l = 8 * l.spot.now.levels

abbrev pub decreases-record_items : goal.decreases-record_items
decreases-record_items l = 8 * l.spot.now.levels + 5

abbrev pub decreases-body_items : goal.decreases-body_items
decreases-body_items l = 8 * l.spot.now.levels + 4

abbrev pub decreases-fields_items : goal.decreases-fields_items
decreases-fields_items l = 8 * l.spot.now.levels

abbrev pub decreases-union_items : goal.decreases-union_items
decreases-union_items l = 8 * l.spot.now.levels + 5

abbrev pub decreases-chosen_items : goal.decreases-chosen_items
decreases-chosen_items l = 8 * l.spot.now.levels + 4

-- the parts so far, and those that are still noted, are all; and the reader stands between them
abbrev pub invariant-each_items-loop-index : goal.invariant-each_items-loop-index
invariant-each_items-loop-index l = record {
  told : (ps : List Part)
      × (behind ps (elements_items (λ q b. part_items l.spot.schema.now.decls l.spot.levels l.element q (is_inside l.initial.from) b) l.spot.path.now l.index (l.count - l.index) (left l.from))
      ≡ elements_items (λ q b. part_items l.spot.schema.now.decls l.spot.levels l.element q (is_inside l.initial.from) b) l.spot.path.now 0 l.count (left l.initial.from))
      × (l.items ≡ l.initial.items ++ of_parts ps);
  on : MovesOn l.initial.from l.from;
  stem : IsStem l.spot.path.now (string_bytes l.stem);
}

abbrev pub invariant-fields_items-loop-field : goal.invariant-fields_items-loop-field
invariant-fields_items-loop-field l = record {
  told : (ps : List Part)
      × (behind ps (fields_items (λ u q b. part_items l.spot.schema.now.decls l.spot.levels u q true b) l.spot.path.now (drop l.field-index l.fields) (left l.from))
      ≡ fields_items (λ u q b. part_items l.spot.schema.now.decls l.spot.levels u q true b) l.spot.path.now l.fields (left l.initial.from))
      × (l.items ≡ l.initial.items ++ of_parts ps);
  on : MovesOn l.initial.from l.from;
}
