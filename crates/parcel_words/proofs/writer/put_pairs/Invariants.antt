use Rattle.std.proofs.Common.{◌≡◌, map, take}
use Rattle.std.specs.Int.{w16, to_le_bytes}
use Rattle.parcel_words.proofs.writer.put_pairs.Given as goal

-- the units so far, two bytes each
abbrev pub invariant-loop-i : goal.invariant-loop-i
invariant-loop-i l = take l.i l.pairs ≡ map (to_le_bytes w16) (take l.i l.units)
