use Rattle.std.proofs.Common.{◌≡◌, map, take, string_bytes}
use Rattle.std.specs.Int.{w16, from_le_bytes}
use Rattle.std.specs.Str.{IsAscii}
use Rattle.parcel_words.proofs.units.long_text.Given as goal

-- the units so far, one byte each
abbrev pub invariant-loop-pair : goal.invariant-loop-pair
invariant-loop-pair l = record {
  same : string_bytes l.text ≡ map (from_le_bytes w16) (take l.pair-index l.pairs);
  ascii : IsAscii (string_bytes l.text);
}
