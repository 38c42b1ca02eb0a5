use Rattle.schema_bounds.proofs.Lists.{counted}
use Rattle.schema_bounds.proofs.reaching.all_below.Goals as goal

pub loop-number-preserved : goal.loop-number-preserved
loop-number-preserved c = counted c.loop-number.number c.loop-number.row _ c.loop-number.invariant c.in_ok-push.ensures.ok
