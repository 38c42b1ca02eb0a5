use Rattle.std.proofs.Common.{◌≡◌, ◌≤◌, length, drop}
use Rattle.std.specs.List.{flat_map}
use Rattle.parcel_words.specs.Written.{with_bytes}
use Rattle.parcel_words.proofs.sequence.put_sequence.Given as goal

-- after the count, with the items that are left, all is written, and there is room for them
abbrev pub invariant-loop-item : goal.invariant-loop-item
invariant-loop-item g l = record {
  all : with_bytes l.to (flat_map g.W.Wire.spelling (drop l.item-index l.items)) ≡ with_bytes l.initial.to (flat_map g.W.Wire.spelling l.items);
  room : length (flat_map g.W.Wire.spelling (drop l.item-index l.items)) ≤ l.to.room;
}
