use Rattle.std.proofs.Common.{not, true, take}
use Rattle.std.specs.List.{flat_map}
use Rattle.aidl_schema.specs.Broken.{is_kept, member, same_method}
use Rattle.aidl_schema.specs.Names.{methods_of}
use Rattle.compat_judge.specs.steps.Adds.{Adds}
use Rattle.compat_judge.specs.steps.Steps.{break_if}
use Rattle.compat_judge.proofs.members.at_lost_methods.Given as goal

abbrev pub invariant-loop-i : goal.invariant-loop-i
invariant-loop-i l = Adds l.initial.found l.found
    (flat_map (break_if l.rule (λ m. member l.pair.before.now m.name) (λ m. not (is_kept same_method (λ x y. true) (methods_of l.pair.after.now.kind) m))) (take l.i l.olds))
