use Rattle.std.proofs.Common.{◌≡◌, length, map}
use Rattle.serde_json.specs.View.{items_view}
use Rattle.aidl_values.specs.View.{view}
use Rattle.call_scripts.specs.Answers.{values_from}
use Rattle.call_scripts.proofs.Outs.{EachSoFar, values_at}
use Rattle.call_scripts.proofs.answers.values_from.Given as goal

-- with the values that are left, the answer is that of all
abbrev pub invariant-loop-k : goal.invariant-loop-k
invariant-loop-k l = record {
  same : length l.types ≡ length l.items;
  all : values_at l.schema.decls l.types l.items (map view l.values.items) l.k ≡ values_from l.schema.decls 0 l.types (items_view l.items);
  fit : EachSoFar l.schema.decls l.types (map view l.values.items) l.k;
}
