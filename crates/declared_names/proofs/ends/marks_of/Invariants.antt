use Rattle.std.proofs.Common.{◌≡◌, map, take}
use Rattle.declared_names.proofs.ends.marks_of.Given as goal

-- the marks of the ends so far
abbrev pub invariant-loop-end : goal.invariant-loop-end
invariant-loop-end l = l.marks.items ≡ map (λ e. e.mark) (take l.end-index l.listed)
