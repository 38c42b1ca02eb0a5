use Rattle.graph_cycles.proofs.marking.leads_to_root.Given as goal

abbrev pub invariant-loop-target : goal.invariant-loop-target
invariant-loop-target l = Unit {0}
