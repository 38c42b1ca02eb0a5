use Rattle.std.proofs.Common.{true, false, arith}
use Rattle.graph_cycles.proofs.Ranks.{counted}
use Rattle.graph_cycles.proofs.slow.marked.Goals.{then-mark, else-mark}
use Rattle.graph_cycles.proofs.slow.marked.Goals as goal

pub loop-mark-preserved : goal.loop-mark-preserved
loop-mark-preserved c = elim c.if-mark.branch [
  | then-mark w ↦ let new = w.count-is in counted c.args.marks.now c.loop-mark.mark-index c.loop-mark.count c.if-mark.count true c.loop-mark-test.true w.if-mark.true c.loop-mark.invariant (omega arith)
  | else-mark w ↦ let new = w.count-is in counted c.args.marks.now c.loop-mark.mark-index c.loop-mark.count c.if-mark.count false c.loop-mark-test.true w.if-mark.false c.loop-mark.invariant (omega arith)
]
