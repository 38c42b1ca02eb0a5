use Rattle.std.proofs.Common.{◌≡◌, take, map}
use Rattle.aidl_values.specs.Default.{const_value}
use Rattle.aidl_values.specs.View.{view}
use Rattle.aidl_values.proofs.default.+constant.Given as goal

abbrev pub invariant-values_of-loop-constant : goal.invariant-values_of-loop-constant
invariant-values_of-loop-constant l = map view l.values.items ≡ map const_value (take l.constant-index l.constants)
