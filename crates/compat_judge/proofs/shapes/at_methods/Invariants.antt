use Rattle.std.proofs.Common.{take}
use Rattle.std.specs.List.{find, flat_map}
use Rattle.aidl_schema.specs.Broken.{is_there_and, member, same_method}
use Rattle.aidl_schema.specs.Names.{methods_of}
use Rattle.compat_judge.specs.steps.Adds.{Adds}
use Rattle.compat_judge.specs.steps.Steps.{break_if}
use Rattle.compat_judge.specs.steps.Tests.{method_breaks}
use Rattle.compat_judge.proofs.shapes.at_methods.Given as goal

abbrev pub invariant-loop-i : goal.invariant-loop-i
invariant-loop-i l = Adds l.initial.found l.found
    (flat_map (break_if l.rule (λ m. member l.pair.before.now m.name)
    (λ m. is_there_and (method_breaks l.test l.pair.old.now.decls l.pair.new.now.decls m) (find (λ w. same_method m w) (methods_of l.pair.after.now.kind)))) (take l.i l.olds))
