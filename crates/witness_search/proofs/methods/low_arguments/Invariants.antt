use Rattle.std.proofs.Common.{◌≡◌, false, take, map}
use Rattle.aidl_values.specs.View.{view}
use Rattle.compat_witness.specs.Reaching.{plain_value}
use Rattle.witness_search.proofs.methods.low_arguments.Given as goal

-- z0 of each argument before
abbrev pub invariant-loop-arg : goal.invariant-loop-arg
invariant-loop-arg l = map view l.values.items ≡ map (λ a. plain_value false a.ty.base) (take l.arg-index l.args)
