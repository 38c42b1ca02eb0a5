use Rattle.std.proofs.Common.{take}
use Rattle.std.specs.List.{enumerate_from, flat_map, zip}
use Rattle.aidl_schema.specs.Broken.{argument}
use Rattle.compat_judge.specs.steps.Adds.{Adds}
use Rattle.compat_judge.specs.steps.Steps.{break_if}
use Rattle.compat_judge.specs.steps.Tests.{argument_breaks}
use Rattle.compat_judge.proofs.shapes.at_arguments_of.Given as goal

abbrev pub invariant-loop-i : goal.invariant-loop-i
invariant-loop-i l = Adds l.initial.found l.found
    (flat_map (break_if l.rule (λ p. argument l.pair.before.now l.before.name p.0) (λ p. argument_breaks l.test l.pair.old.now.decls l.pair.new.now.decls p.1.0 p.1.1)) (take l.i (enumerate_from 0 (zip l.olds l.news))))
