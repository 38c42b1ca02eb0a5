use Rattle.std.proofs.Common.{◌≡◌, map, take}
use Rattle.std.specs.Int.{w16, from_le_bytes}
use Rattle.parcel_words.proofs.units.units_of.Given as goal

-- the units of the pairs so far
abbrev pub invariant-loop-pair : goal.invariant-loop-pair
invariant-loop-pair l = l.units.items ≡ map (from_le_bytes w16) (take l.pair-index l.pairs)
