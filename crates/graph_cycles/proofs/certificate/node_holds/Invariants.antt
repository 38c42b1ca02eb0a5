use Rattle.std.proofs.Common.{◌≡◌, ℕ, ◌<◌, ◌≤◌, false, get_or}
use Rattle.graph_cycles.specs.Paths.{flag, targets}
use Rattle.graph_cycles.proofs.certificate.node_holds.Given as goal

abbrev pub invariant-loop-target : goal.invariant-loop-target
invariant-loop-target l = (k : ℕ) → k < l.target-index →
    (get_or l.ranks (get_or (targets l.edges l.node) k 0) 0 ≤ get_or l.ranks l.node 0)
    × (flag l.on l.node ≡ false → get_or l.ranks (get_or (targets l.edges l.node) k 0) 0 < get_or l.ranks l.node 0)
