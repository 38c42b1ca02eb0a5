use Rattle.std.proofs.Common.{◌≡◌, ◌<◌, ℕ, ◌++◌, length, map}
use Rattle.compat_witness.specs.Reaching.{methods_reaching}
use Rattle.witness_search.specs.Asked.{method_seen}
use Rattle.witness_search.specs.ReachTables.{row_at}
use Rattle.witness_search.proofs.Reaches.{later_ones}
use Rattle.witness_search.proofs.reaching.add_all.Given as goal

-- the methods in each row, and then those of the interfaces that are left, are all
abbrev pub invariant-loop-i : goal.invariant-loop-i
invariant-loop-i l = (k : ℕ) → k < length l.rows →
    map method_seen (row_at l.rows k) ++ later_ones l.client k l.server l.i ≡ map method_seen (row_at l.initial.rows k) ++ methods_reaching l.client k l.server
