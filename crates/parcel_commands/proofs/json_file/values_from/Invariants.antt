use Rattle.std.proofs.Common.{◌≡◌, length, map, take}
use Rattle.serde_json.specs.View.{items_view}
use Rattle.aidl_values.specs.View.{view}
use Rattle.parcel_commands.specs.JsonFile.{AreTyped, values_from}
use Rattle.parcel_commands.proofs.ReadValues.{left_at}
use Rattle.parcel_commands.proofs.json_file.values_from.Given as goal

-- the values so far have their types, and with those that are left the answer is that of all
abbrev pub invariant-loop-i : goal.invariant-loop-i
invariant-loop-i l = record {
  same : length l.types ≡ length l.items;
  typed : AreTyped l.schema.decls (take l.i l.types) (map view l.values.items);
  all : left_at l.schema.decls l.types l.items (map view l.values.items) l.i ≡ values_from l.schema.decls 0 l.types (items_view l.items);
}
