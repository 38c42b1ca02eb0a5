use Rattle.std.proofs.Common.{◌≡◌, ℕ, ◌<◌, length, true}
use Rattle.graph_cycles.specs.Paths.{IsEdge, flag, targets}
use Rattle.graph_cycles.proofs.slow.open_target.Given as goal

abbrev pub invariant-loop-node : goal.invariant-loop-node
invariant-loop-node l = (i : ℕ) → i < l.node → flag l.marks i ≡ true → (n : ℕ) → IsEdge (targets l.edges) i n → n < length l.marks → flag l.marks n ≡ true
