use Rattle.std.proofs.Common.{◌≡◌, ◌++◌, map, length}
use Rattle.aidl_names.specs.Places.{breach_of}
use Rattle.aidl_names.proofs.order.rows_of.Given as goal

-- those that are listed and those that are left are all
abbrev pub invariant-places : goal.invariant-places
invariant-places l = l.rows.items ++ map breach_of l.places.keys ≡ map breach_of l.initial.places.keys

abbrev pub decreases-places : goal.decreases-places
decreases-places l = length l.places.keys
