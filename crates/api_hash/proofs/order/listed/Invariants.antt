use Rattle.std.proofs.Common.{◌≡◌, ◌++◌, map, length}
use Rattle.api_hash.proofs.Orders.{seen}
use Rattle.api_hash.proofs.order.listed.Given as goal

-- those that are listed and those that are left are all
abbrev pub invariant-places : goal.invariant-places
invariant-places l = map (λ f. f.now) l.files.items ++ map seen l.places.entries ≡ map seen l.initial.places.entries

abbrev pub decreases-places : goal.decreases-places
decreases-places l = length l.places.entries
