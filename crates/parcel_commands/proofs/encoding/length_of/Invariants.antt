use Rattle.std.proofs.Common.{◌≡◌, ◌+◌, ◌≤◌, length, drop, map, min}
use Rattle.aidl_values.specs.View.{view}
use Rattle.parcel_commands.specs.Encode.{spell_values}
use Rattle.parcel_commands.specs.JsonFile.{AreTyped}
use Rattle.parcel_commands.proofs.encoding.length_of.Given as goal

-- with the values that are left, the length is that of all
abbrev pub invariant-loop-i : goal.invariant-loop-i
invariant-loop-i l = record {
  fits : l.length ≤ l.fn.most;
  same : length l.fn._types ≡ length l.values;
  typed : AreTyped l.fn._schema.decls (drop l.i l.fn._types) (map view (drop l.i l.values));
  sum : min (l.length + length (spell_values l.fn._schema.decls (drop l.i l.fn._types) (map view (drop l.i l.values)))) l.fn.most
      ≡ min (length (spell_values l.fn._schema.decls l.fn._types (map view l.values))) l.fn.most;
}
