use Rattle.graph_cycles.specs.Paths.{targets}
use Rattle.std.proofs.Common.{sym, ◌∙◌, subst}
use Rattle.graph_cycles.specs.steps.Marks.{OnCycles}
use Rattle.graph_cycles.proofs.marking.mark_both.Goals as goal
use Rattle.graph_cycles.proofs.marking.mark_both.Goals.{then-is_set+then-is_set-2, else-is_set}
use Rattle.graph_cycles.proofs.Steps.{both_step}

pub loop-node-preserved : goal.loop-node-preserved
loop-node-preserved c =
    elim c.if-is_set.branch [
      | then-is_set+then-is_set-2 w ↦
          both_step c.args.edges.now c.requires.roots.0 c.args.after.now c.args.before.now c.loop-node.on c.if-is_set.on c.loop-node.node c.requires.roots.1 c.requires.roots.2 c.loop-node.invariant
          (sym c.is_set.ensures ∙ w.if-is_set.true) (sym w.is_set-then-is_set.ensures ∙ w.if-is_set-2.true) (w.on-is ∙ w.set.ensures)
      | else-is_set w ↦ subst (λ zs. OnCycles (targets c.args.edges.now) zs) (sym w.on-is) c.loop-node.invariant
    ]
