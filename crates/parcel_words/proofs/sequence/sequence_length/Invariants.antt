use Rattle.std.proofs.Common.{◌≡◌, ◌+◌, ◌-◌, ◌^◌, length, min, take}
use Rattle.std.specs.List.{flat_map}
use Rattle.parcel_words.proofs.sequence.sequence_length.Given as goal

-- the length of the count and of the items so far
abbrev pub invariant-loop-item : goal.invariant-loop-item
invariant-loop-item g l = l.len ≡ min (4 + length (flat_map g.W.Wire.spelling (take l.item-index l.items))) (2 ^ 64 - 1)
