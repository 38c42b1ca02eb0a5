use Rattle.std.proofs.Common.{◌&&◌, not, take}
use Rattle.std.specs.Prelude.{◌==◌}
use Rattle.std.specs.List.{flat_map}
use Rattle.aidl_schema.specs.Broken.{is_kept, member, same_constant, same_const}
use Rattle.aidl_schema.specs.Same.{base_code}
use Rattle.compat_judge.specs.steps.Adds.{Adds}
use Rattle.compat_judge.specs.steps.Steps.{break_if}
use Rattle.compat_judge.proofs.members.at_lost_constants.Given as goal

abbrev pub invariant-loop-i : goal.invariant-loop-i
invariant-loop-i l = Adds l.initial.found l.found
    (flat_map (break_if l.rule (λ c. member l.pair.before.now c.name) (λ c. not (is_kept same_constant (λ c k. (base_code c.ty == base_code k.ty) && same_const c.value k.value) (l.pair.after.now.constants) c))) (take l.i l.olds))
