use Rattle.std.proofs.Common.{◌≡◌, ◌-◌, ◌++◌, List}
use Rattle.std.specs.Prelude.{string_bytes}
use Rattle.aidl_base.specs.declared.profile.Profile.TheVariants.{Strict}
use Rattle.parcel_words.specs.Place.{left, is_inside, MovesOn}
use Rattle.parcel_explain.specs.Items.{elements_items, value_item}
use Rattle.parcel_explain.specs.Noted.{Part, behind}
use Rattle.parcel_explain.specs.steps.Stems.{IsStem}
use Rattle.parcel_explain.proofs.Steps.{of_parts}
use Rattle.parcel_explain.proofs.words.words_items.Given as goal

-- the parts so far, and those that are still noted, are all; and the reader stands between them
abbrev pub invariant-loop-index : goal.invariant-loop-index
invariant-loop-index g l = record {
  told : (ps : List Part)
      × (behind ps (elements_items (λ q b. value_item q (λ c. g.W.Wire.reading Strict (is_inside l.initial.from) c) b) l.spot.path.now l.index (l.count - l.index) (left l.from))
      ≡ elements_items (λ q b. value_item q (λ c. g.W.Wire.reading Strict (is_inside l.initial.from) c) b) l.spot.path.now 0 l.count (left l.initial.from))
      × (l.items ≡ l.initial.items ++ of_parts ps);
  on : MovesOn l.initial.from l.from;
  stem : IsStem l.spot.path.now (string_bytes l.stem);
}
