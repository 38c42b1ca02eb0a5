use Rattle.std.proofs.Common.{◌≡◌, ℕ, ◌<◌, length, true, get_or}
use Rattle.graph_cycles.specs.Paths.{flag, targets}
use Rattle.graph_cycles.proofs.slow.unmarked_target.Given as goal

abbrev pub invariant-loop-target : goal.invariant-loop-target
invariant-loop-target l = (k : ℕ) → k < l.target-index → get_or (targets l.edges l.node) k 0 < length l.marks → flag l.marks (get_or (targets l.edges l.node) k 0) ≡ true
