use Rattle.std.proofs.Common.{◌≡◌, map, take}
use Rattle.std.specs.Int.{w16, from_le_bytes}
use Rattle.std.specs.Str.{IsAscii}
use Rattle.parcel_words.proofs.units.is_ascii_put.Given as goal

-- the units so far, one byte each
abbrev pub invariant-loop-i : goal.invariant-loop-i
invariant-loop-i l = record {
  same : take l.i l.bytes ≡ map (from_le_bytes w16) (take l.i l.pairs);
  ascii : IsAscii (take l.i l.bytes);
}
