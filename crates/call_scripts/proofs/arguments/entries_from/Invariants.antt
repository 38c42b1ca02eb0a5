use Rattle.std.proofs.Common.{◌≡◌, ◌≤◌, length, map}
use Rattle.serde_json.specs.View.{items_view}
use Rattle.aidl_values.specs.View.{view}
use Rattle.call_scripts.specs.Arguments.{entries_from}
use Rattle.call_scripts.proofs.Entries.{FitSoFar, SumSoFar, left_at}
use Rattle.call_scripts.proofs.arguments.entries_from.Given as goal

-- with the entries that are left, the answer is that of all, and what fits what is left completes what was read
abbrev pub invariant-loop-k : goal.invariant-loop-k
invariant-loop-k l = record {
  same : length l.args ≡ length l.items;
  few : l.sum ≤ 65536;
  all : left_at l.schema.decls l.args l.items (map view l.values.items) l.k l.sum ≡ entries_from l.schema.decls 0 0 l.args (items_view l.items);
  fit : FitSoFar l.schema.decls l.args l.items (map view l.values.items) l.k;
  sums : SumSoFar l.schema.decls l.args l.items (map view l.values.items) l.k l.sum;
}
