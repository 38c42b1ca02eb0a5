use Rattle.const_items.proofs.target.+constant_around.Given as goal

abbrev pub decreases-constant_around : goal.decreases-constant_around
decreases-constant_around l = l.levels
