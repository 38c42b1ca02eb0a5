use Rattle.std.proofs.Common.{◌≡◌, ℕ, ◌<◌, ◌≤◌, false, get_or}
use Rattle.graph_cycles.specs.Paths.{IsEdge, flag, targets}
use Rattle.graph_cycles.proofs.certificate.is_certified.Given as goal

abbrev pub invariant-loop-node : goal.invariant-loop-node
invariant-loop-node l = (m : ℕ) → m < l.node → (n : ℕ) → IsEdge (targets l.edges) m n →
    (get_or l.ranks n 0 ≤ get_or l.ranks m 0) × (flag l.on m ≡ false → get_or l.ranks n 0 < get_or l.ranks m 0)
