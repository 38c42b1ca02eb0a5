use Rattle.std.proofs.Common.{◌≡◌, take, map}
use Rattle.aidl_values.specs.View.{view}
use Rattle.aidl_values.proofs.copying.+copy.Given as goal

abbrev pub invariant-copy_values-loop-value : goal.invariant-copy_values-loop-value
invariant-copy_values-loop-value l = map view l.copies.items ≡ map view (take l.value-index l.values)
