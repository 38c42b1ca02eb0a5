use Rattle.std.proofs.Common.{◌≡◌, ◌^◌, ◌<◌, ◌≤◌, length, drop, map}
use Rattle.aidl_values.specs.View.{view}
use Rattle.parcel_words.specs.Written.{with_bytes}
use Rattle.parcel_commands.specs.Encode.{spell_values}
use Rattle.parcel_commands.specs.JsonFile.{AreTyped}
use Rattle.parcel_commands.proofs.encoding.put_values.Given as goal

-- with the values that are left, all is written, and there is room for them
abbrev pub invariant-loop-i : goal.invariant-loop-i
invariant-loop-i l = record {
  same : length l.fn._types ≡ length l.values;
  typed : AreTyped l.fn._schema.decls (drop l.i l.fn._types) (map view (drop l.i l.values));
  small : length (spell_values l.fn._schema.decls (drop l.i l.fn._types) (map view (drop l.i l.values))) < 2 ^ 31;
  room : length (spell_values l.fn._schema.decls (drop l.i l.fn._types) (map view (drop l.i l.values))) ≤ l.to.room;
  all : with_bytes l.to (spell_values l.fn._schema.decls (drop l.i l.fn._types) (map view (drop l.i l.values)))
      ≡ with_bytes l.initial.to (spell_values l.fn._schema.decls l.fn._types (map view l.values));
}
