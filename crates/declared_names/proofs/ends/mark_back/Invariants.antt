use Rattle.std.proofs.Common.{◌≡◌, drop}
use Rattle.declared_names.specs.Ends.{mark_back}
use Rattle.declared_names.proofs.ends.mark_back.Given as goal

-- of the parts from i on
abbrev pub invariant-loop-i : goal.invariant-loop-i
invariant-loop-i l = l.mark ≡ mark_back (drop l.i l.name)
