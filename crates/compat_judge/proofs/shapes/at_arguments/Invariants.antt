use Rattle.std.proofs.Common.{take}
use Rattle.std.specs.List.{find, flat_map}
use Rattle.aidl_schema.specs.Broken.{if_found, of_rule, same_method}
use Rattle.aidl_schema.specs.Names.{methods_of}
use Rattle.compat_judge.specs.steps.Adds.{Adds}
use Rattle.compat_judge.specs.steps.Shapes.{in_arguments_of}
use Rattle.compat_judge.proofs.shapes.at_arguments.Given as goal

abbrev pub invariant-loop-i : goal.invariant-loop-i
invariant-loop-i l = Adds l.initial.found l.found
    (flat_map (λ m. of_rule l.rule (if_found (in_arguments_of l.test l.pair m) (find (λ w. same_method m w) (methods_of l.pair.after.now.kind)))) (take l.i l.olds))
