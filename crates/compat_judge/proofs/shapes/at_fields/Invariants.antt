use Rattle.std.proofs.Common.{take}
use Rattle.std.specs.List.{flat_map, zip}
use Rattle.aidl_schema.specs.Broken.{member}
use Rattle.compat_judge.specs.steps.Adds.{Adds}
use Rattle.compat_judge.specs.steps.Steps.{break_if}
use Rattle.compat_judge.specs.steps.Tests.{field_breaks}
use Rattle.compat_judge.proofs.shapes.at_fields.Given as goal

abbrev pub invariant-loop-i : goal.invariant-loop-i
invariant-loop-i l = Adds l.initial.found l.found
    (flat_map (break_if l.rule (λ p. member l.pair.before.now p.0.name) (λ p. field_breaks l.test l.pair.old.now.decls l.pair.new.now.decls p.0 p.1)) (take l.i (zip l.olds l.news)))
