use Rattle.graph_cycles.proofs.slow.mark_all.Goals as goal
use Rattle.graph_cycles.proofs.Steps.{fewer_unmarked}

pub loop-to-smaller : goal.loop-to-smaller
loop-to-smaller c = let found = c.in-Some.ensures.some in fewer_unmarked c.loop-to.marks c.set.new.flags c.in-Some.to found.2 found.1 c.set.ensures
