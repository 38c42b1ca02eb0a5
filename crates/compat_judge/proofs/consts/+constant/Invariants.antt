use Rattle.std.proofs.Common.{◌≡◌, drop, map}
use Rattle.aidl_schema.specs.Broken.{same_const, pass_each}
use Rattle.compat_judge.proofs.consts.+constant.Given as goal

-- what is left of both decides
abbrev pub invariant-same_consts-loop-i : goal.invariant-same_consts-loop-i
invariant-same_consts-loop-i l = pass_each (map same_const (drop l.i l.olds)) (drop l.i l.news) ≡ pass_each (map same_const l.olds) l.news
