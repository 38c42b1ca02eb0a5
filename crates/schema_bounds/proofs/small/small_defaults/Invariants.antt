use Rattle.std.proofs.Common.{◌≡◌, map}
use Rattle.std.specs.List.{range_with_len}
use Rattle.aidl_schema.specs.Sizes.{has_small_default}
use Rattle.aidl_schema.specs.Valid.{one_of}
use Rattle.schema_bounds.proofs.small.small_defaults.Given as goal

abbrev pub invariant-loop-number : goal.invariant-loop-number
invariant-loop-number l = l.small.items ≡ map (λ n. has_small_default l.decls (one_of n)) (range_with_len 0 l.number)
