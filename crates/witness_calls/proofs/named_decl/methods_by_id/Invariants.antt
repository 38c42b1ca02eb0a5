use Rattle.std.proofs.Common.{◌≡◌, ℕ, drop}
use Rattle.std.specs.Prelude.{nat_eq}
use Rattle.indexmap.specs.IndexMap.{get}
use Rattle.witness_calls.specs.steps.Tables.{id_from}
use Rattle.witness_calls.proofs.named_decl.methods_by_id.Given as goal

-- the methods from i on
abbrev pub invariant-loop-i : goal.invariant-loop-i
invariant-loop-i l = (n : ℕ) → get nat_eq l.table n ≡ id_from n l.i (drop l.i l.methods)
