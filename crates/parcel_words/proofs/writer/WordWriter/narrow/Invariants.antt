use Rattle.std.proofs.Common.{◌≡◌, ◌≤◌, length}
use Rattle.aidl_base.specs.Words.{unit_bytes}
use Rattle.parcel_words.specs.Written.{with_bytes}
use Rattle.parcel_words.proofs.writer.WordWriter.narrow.Given as goal

-- with the units that are left, all is written, and there is room for them
abbrev pub invariant-loop-rest : goal.invariant-loop-rest
invariant-loop-rest l = record {
  all : with_bytes l.self (unit_bytes l.rest) ≡ with_bytes l.fn.self (unit_bytes l.units);
  room : length (unit_bytes l.rest) ≤ l.self.room;
}

abbrev pub decreases-loop-rest : goal.decreases-loop-rest
decreases-loop-rest l = length l.rest
