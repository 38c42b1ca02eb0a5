use Rattle.std.proofs.Common.{◌∙◌, ap, length, true, length-set}
use Rattle.graph_cycles.proofs.slow.reach_by.Goals as goal
use Rattle.graph_cycles.proofs.Ranks.{reach_is}
use Rattle.graph_cycles.proofs.Steps.{told}

pub returns-clause-back : goal.returns-clause-back
returns-clause-back c = told c.args.edges.now c.mark_all.new.marks c.args.node c.is_set-back.result c.mark_all.ensures.marks c.mark_all.ensures.closed (c.mark_all.ensures.len ∙ c.requires.len) c.requires.node c.is_set-back.ensures

pub returns-clause-nodes : goal.returns-clause-nodes
returns-clause-nodes c = reach_is c.args.edges.now c.mark_all.new.marks c.set.new.flags c.args.node c.marked.result c.mark_all.ensures.marks c.mark_all.ensures.closed
    (c.mark_all.ensures.len ∙ c.requires.len) c.requires.node c.set.ensures (ap length c.set.ensures ∙ length-set c.mark_all.new.marks c.args.node true ∙ c.mark_all.ensures.len ∙ c.requires.len) c.marked.ensures
