use Rattle.std.proofs.Common.{not, take}
use Rattle.std.specs.List.{flat_map}
use Rattle.std.specs.Ordering.{int_eq}
use Rattle.aidl_schema.specs.Broken.{is_kept, member, same_enumerator}
use Rattle.aidl_schema.specs.Names.{enumerators_of}
use Rattle.compat_judge.specs.steps.Adds.{Adds}
use Rattle.compat_judge.specs.steps.Steps.{break_if}
use Rattle.compat_judge.proofs.members.at_lost_enumerators.Given as goal

abbrev pub invariant-loop-i : goal.invariant-loop-i
invariant-loop-i l = Adds l.initial.found l.found
    (flat_map (break_if l.rule (λ x. member l.pair.before.now x.name) (λ x. not (is_kept same_enumerator (λ x y. int_eq x.value y.value) (enumerators_of l.pair.after.now.kind) x))) (take l.i l.olds))
