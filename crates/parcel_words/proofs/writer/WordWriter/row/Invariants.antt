use Rattle.std.proofs.Common.{◌≡◌, ◌≤◌, length, drop}
use Rattle.aidl_base.specs.Words.{unit_bytes}
use Rattle.parcel_words.specs.Written.{with_bytes}
use Rattle.parcel_words.proofs.writer.WordWriter.row.Given as goal

-- with the units that are left, all is written, and there is room for them
abbrev pub invariant-loop-unit : goal.invariant-loop-unit
invariant-loop-unit l = record {
  all : with_bytes l.self (unit_bytes (drop l.unit-index l.units)) ≡ with_bytes l.initial.self (unit_bytes l.units);
  room : length (unit_bytes (drop l.unit-index l.units)) ≤ l.self.room;
}
