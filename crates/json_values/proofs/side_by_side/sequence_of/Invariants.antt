use Rattle.std.proofs.Common.{◌≡◌, ◌<◌, ℕ, List, drop, map}
use Rattle.serde_json.specs.View.{items_view}
use Rattle.aidl_schema.specs.declared.schema.Decl.{Decl}
use Rattle.aidl_values.proofs.lemmas.Fronts.{with_front}
use Rattle.json_values.specs.FromJson.{items_from}
use Rattle.json_values.specs.steps.Levels.{part_from}
use Rattle.json_values.proofs.side_by_side.sequence_of.Given as goal

-- the elements so far, and then what is left, are all
abbrev pub invariant-loop-item : goal.invariant-loop-item
invariant-loop-item g l = (S : List Decl) → (d : ℕ) → 0 < d →
    with_front (map g.E.Element.seen l.elements.items) (items_from (λ j. part_from S d l.ty j) l.item-index (items_view (drop l.item-index l.items)))
    ≡ items_from (λ j. part_from S d l.ty j) 0 (items_view l.items)
