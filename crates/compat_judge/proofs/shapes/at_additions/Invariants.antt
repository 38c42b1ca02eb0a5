use Rattle.std.proofs.Common.{take}
use Rattle.std.specs.List.{flat_map}
use Rattle.aidl_schema.specs.Broken.{is_refused_addition, member}
use Rattle.compat_judge.specs.steps.Adds.{Adds}
use Rattle.compat_judge.specs.steps.Steps.{break_if}
use Rattle.compat_judge.proofs.shapes.at_additions.Given as goal

abbrev pub invariant-loop-field : goal.invariant-loop-field
invariant-loop-field l = Adds l.initial.found l.found
    (flat_map (break_if l.rule (λ g. member l.pair.before.now g.name) (λ g. is_refused_addition l.pair.new.now.decls g)) (take l.field-index l.added))
