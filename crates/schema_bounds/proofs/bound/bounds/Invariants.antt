use Rattle.std.proofs.Common.{◌≡◌, map}
use Rattle.std.specs.List.{range_with_len}
use Rattle.schema_bounds.specs.Bounds.{bound}
use Rattle.schema_bounds.proofs.bound.bounds.Given as goal

abbrev pub invariant-loop-number : goal.invariant-loop-number
invariant-loop-number l = l.bounds.items ≡ map (bound l.decls) (range_with_len 0 l.number)
