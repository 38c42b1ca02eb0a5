use Rattle.std.proofs.Common.{◌≡◌, ℕ, ◌<◌, ◌↔◌, IsTrue, vec_len, slice_index}
use Rattle.graph_cycles.specs.Paths.{Leads, flag, targets}
use Rattle.graph_cycles.specs.steps.Marks.{IsRank}
use Rattle.graph_cycles.proofs.slow.cycles_slowly.Given as goal

-- what is told of each node before this one
abbrev pub invariant-loop-node : goal.invariant-loop-node
invariant-loop-node l = record {
  len : vec_len l.on ≡ l.node;
  count : vec_len l.ranks ≡ l.node;
  told : (k : ℕ) → k < l.node → IsTrue (flag l.on.items k) ↔ Leads (targets l.edges) k k;
  ranked : (k : ℕ) → k < l.node → IsRank l.edges k (slice_index l.ranks.items k);
}
