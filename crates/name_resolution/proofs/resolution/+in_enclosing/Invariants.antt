use Rattle.name_resolution.proofs.resolution.+in_enclosing.Given as goal

abbrev pub decreases-in_enclosing : goal.decreases-in_enclosing
decreases-in_enclosing l = l.levels
