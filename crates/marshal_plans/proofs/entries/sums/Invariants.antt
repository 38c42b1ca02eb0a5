use Rattle.std.proofs.Common.{◌≡◌, ◌≤◌, ◌*◌, ◌++◌, drop}
use Rattle.marshal_plans.specs.steps.Compiled.{firsts_from}
use Rattle.marshal_plans.proofs.entries.sums.Given as goal

-- with those that are left, the firsts are those of all
abbrev pub invariant-loop-decl : goal.invariant-loop-decl
invariant-loop-decl l = record {
  small : l.sum ≤ 4096 * l.decl-index;
  all : l.firsts.items ++ firsts_from l.sum (drop l.decl-index l.decls) ≡ firsts_from 0 l.decls;
}
