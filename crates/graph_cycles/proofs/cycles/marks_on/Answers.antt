use Rattle.std.proofs.Common.{ℕ, Bool, List, sym, subst}
use Rattle.graph_cycles.specs.Paths.{targets}
use Rattle.graph_cycles.specs.steps.Marks.{AfterRoots, BeforeRoots}
use Rattle.graph_cycles.proofs.cycles.marks_on.Goals as goal

pub mark_both-requires-clause-roots : goal.mark_both-requires-clause-roots
mark_both-requires-clause-roots c = (
  c.args.roots.now,
  subst (λ (xs : List Bool). AfterRoots (targets c.args.edges.now) c.args.roots.now xs) (sym c.deref.ensures.value) c.in_ok-after.ensures,
  subst (λ (xs : List Bool). BeforeRoots (targets c.args.edges.now) c.args.roots.now xs) (sym c.deref-2.ensures.value) c.in_ok-before.ensures,
)
