use Rattle.std.specs.Prelude.{◌≡◌, ◌++◌, List, drop}
use Rattle.parcel_words.specs.Place.{left, MovesOn}
use Rattle.parcel_explain.specs.Items.{values_items}
use Rattle.parcel_explain.specs.Noted.{Part, behind}
use Rattle.parcel_explain.proofs.Steps.{of_parts}
use Rattle.parcel_explain.proofs.whole.values_items.Given as goal

-- the parts so far, and those that are still noted, are all; and the reader stands between them
abbrev pub invariant-loop-index : goal.invariant-loop-index
invariant-loop-index l = record {
  told : (ps : List Part)
      × (behind ps (values_items l.schema.decls l.index (drop l.index l.types) (left l.from)) ≡ values_items l.schema.decls 0 l.types (left l.initial.from))
      × (l.items ≡ l.initial.items ++ of_parts ps);
  on : MovesOn l.initial.from l.from;
}
