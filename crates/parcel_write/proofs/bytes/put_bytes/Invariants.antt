use Rattle.std.proofs.Common.{◌≡◌, ◌≤◌, length, drop}
use Rattle.aidl_values.specs.View.{datas, items_of}
use Rattle.parcel_words.specs.Written.{with_bytes}
use Rattle.parcel_write.specs.steps.Bytes.{AreByteValues}
use Rattle.wire_model.specs.Spell.{raw_bytes}
use Rattle.parcel_write.proofs.bytes.put_bytes.Given as goal

-- with the bytes that are left, all is written, and there is room for them
abbrev pub invariant-loop-i : goal.invariant-loop-i
invariant-loop-i l = record {
  bytes : AreByteValues (items_of (drop l.i (datas l.elements)));
  all : with_bytes l.to (raw_bytes (items_of (drop l.i (datas l.elements)))) ≡ with_bytes l.initial.to (raw_bytes (items_of (datas l.elements)));
  room : length (raw_bytes (items_of (drop l.i (datas l.elements)))) ≤ l.to.room;
}
