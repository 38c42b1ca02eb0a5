use Rattle.std.proofs.Common.{◌≡◌, ◌≤◌, length, drop}
use Rattle.std.specs.Str.{chars}
use Rattle.aidl_base.specs.Words.{units, unit_bytes}
use Rattle.parcel_words.specs.Written.{with_bytes}
use Rattle.parcel_words.proofs.writer.WordWriter.units.Given as goal

-- with the characters that are left, all is written, and there is room for them
abbrev pub invariant-loop-c : goal.invariant-loop-c
invariant-loop-c l = record {
  all : with_bytes l.self (unit_bytes (units (drop (length l.yielded) (chars l.text)))) ≡ with_bytes l.initial.self (unit_bytes (units (chars l.text)));
  room : length (unit_bytes (units (drop (length l.yielded) (chars l.text)))) ≤ l.self.room;
}
