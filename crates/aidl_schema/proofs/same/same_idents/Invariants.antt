use Rattle.std.proofs.Common.{◌≡◌, drop}
use Rattle.aidl_schema.specs.Same.{same_idents}
use Rattle.aidl_schema.proofs.same.same_idents.Given as goal

-- what is left of both decides
abbrev pub invariant-loop-i : goal.invariant-loop-i
invariant-loop-i l = same_idents (drop l.i l.a) (drop l.i l.b) ≡ same_idents l.a l.b
