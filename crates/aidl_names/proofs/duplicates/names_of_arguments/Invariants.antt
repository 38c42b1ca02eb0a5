use Rattle.std.proofs.Common.{◌≡◌, map, take}
use Rattle.aidl_syntax.specs.Trees.{arg_of}
use Rattle.aidl_names.proofs.duplicates.names_of_arguments.Given as goal

abbrev pub invariant-loop-arg : goal.invariant-loop-arg
invariant-loop-arg l = map (λ n. n.now) l.names.items ≡ map (λ a. a.name) (map arg_of (take l.arg-index l.args))
