use Rattle.std.proofs.Common.{◌∙◌}
use Rattle.tree_make.proofs.Ranges.{one_more}
use Rattle.tree_make.proofs.making.calls.Goals as goal

pub loop-k-preserved : goal.loop-k-preserved
loop-k-preserved c w = let more = c.push_calls.ensures w in more.1 ∙ one_more c.loop-k.k (c.loop-k.invariant more.0)
