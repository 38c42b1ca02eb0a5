use Rattle.graph_cycles.specs.Paths.{targets}
use Rattle.std.proofs.Common.{sym, ◌∙◌, subst}
use Rattle.graph_cycles.specs.steps.Marks.{AfterRoots}
use Rattle.graph_cycles.proofs.marking.mark_targets.Goals as goal
use Rattle.graph_cycles.proofs.marking.mark_targets.Goals.{then-number_at-root, else-number_at-root}
use Rattle.graph_cycles.proofs.Steps.{after_step, edge_at}

pub loop-target-preserved : goal.loop-target-preserved
loop-target-preserved c =
    let edge = edge_at c.args.edges.now c.args.node c.targets_of-target-items.result.now c.loop-target.target-index c.targets_of-target-items.ensures c.loop-target-test.true in
    elim c.if-number_at-root.branch [
      | then-number_at-root w ↦
          after_step c.args.edges.now c.args.roots.now c.loop-target.after c.if-number_at-root.after c.args.node _ c.loop-target.invariant c.requires.starts edge
          (sym c.number_at.ensures ∙ w.if-number_at-root.true ∙ c.number_at-root.ensures) (w.after-is ∙ w.set.ensures)
      | else-number_at-root w ↦ subst (λ zs. AfterRoots (targets c.args.edges.now) c.args.roots.now zs) (sym w.after-is) c.loop-target.invariant
    ]
