use Rattle.std.proofs.Common.{◌≡◌, ◌<◌, ℕ, ◌++◌, drop, length, map}
use Rattle.compat_witness.specs.Reaching.{reaches}
use Rattle.witness_search.specs.Asked.{method_seen}
use Rattle.witness_search.specs.ReachTables.{row_at}
use Rattle.witness_search.specs.steps.Reached.{reached_from}
use Rattle.witness_search.proofs.reaching.add_methods.Given as goal

-- the methods in each row, and then those that are left, are all
abbrev pub invariant-loop-i : goal.invariant-loop-i
invariant-loop-i l = (k : ℕ) → k < length l.rows →
    map method_seen (row_at l.rows k) ++ reached_from l.i (λ v. reaches l.ends.client.now k l.ends.server.now l.ends.interface v) l.ends.interface (drop l.i l.methods)
    ≡ map method_seen (row_at l.initial.rows k) ++ reached_from 0 (λ v. reaches l.ends.client.now k l.ends.server.now l.ends.interface v) l.ends.interface l.methods
