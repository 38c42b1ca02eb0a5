use Rattle.std.proofs.Common.{◌≡◌, take, true}
use Rattle.std.specs.List.{flat_map}
use Rattle.compat_judge.specs.steps.Adds.{found_so_far}
use Rattle.compat_judge.specs.steps.Steps.{breaks_of}
use Rattle.compat_judge.proofs.judging.judge.Given as goal

-- if memory was there for each, they are what the first declarations break
abbrev pub invariant-loop-decl : goal.invariant-loop-decl
invariant-loop-decl l = l.found.list.is_whole ≡ true → found_so_far l.found ≡ flat_map (breaks_of l.old.decls l.new.decls) (take l.decl-index l.decl-items)
