use Rattle.std.proofs.Common.{◌≡◌, ◌-◌}
use Rattle.aidl_base.specs.Readings.{items_at}
use Rattle.parcel_words.specs.Place.{left, is_inside, MovesOn}
use Rattle.parcel_words.proofs.Items.{after_front}
use Rattle.parcel_words.proofs.sequence.take_each.Given as goal

-- what was read before, and what is still read, are all; and the reader stands between them
abbrev pub invariant-loop : goal.invariant-loop
invariant-loop g l = record {
  read : after_front l.items (items_at (g.W.Wire.reading l.initial.from.profile (is_inside l.initial.from)) (l.count - l.counter) (left l.from)) ≡ items_at (g.W.Wire.reading l.initial.from.profile (is_inside l.initial.from)) l.count (left l.initial.from);
  on : MovesOn l.initial.from l.from;
}
