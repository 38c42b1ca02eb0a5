use Rattle.std.proofs.Common.{◌≡◌, map, take}
use Rattle.std.specs.List.{find}
use Rattle.std.specs.Option.{option_copied}
use Rattle.aidl_schema.specs.Same.{same_text}
use Rattle.compat_judge.proofs.lookup.beside.Given as goal

-- what is beside the members so far
abbrev pub invariant-loop-member : goal.invariant-loop-member
invariant-loop-member g l = map option_copied l.afters.items ≡ map (λ x. find (λ y. same_text ((g.M.Called.called x).0) ((g.M.Called.called y).0)) l.fn.news) (take l.member-index l.fn.olds)
