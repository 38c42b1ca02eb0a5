use Rattle.std.proofs.Common.{◌≡◌, drop}
use Rattle.declared_names.specs.Names.{same}
use Rattle.declared_names.proofs.sameness.same_parts.Given as goal

-- what is left of both decides
abbrev pub invariant-loop-i : goal.invariant-loop-i
invariant-loop-i l = same (drop l.i l.a) (drop l.i l.b) ≡ same l.a l.b
