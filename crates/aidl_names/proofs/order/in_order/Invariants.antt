use Rattle.std.proofs.Common.{◌≡◌, map, drop}
use Rattle.std.specs.List.{fold}
use Rattle.aidl_names.specs.Breaches.{put, in_order}
use Rattle.aidl_names.specs.Places.{breach_of}
use Rattle.aidl_names.proofs.order.in_order.Given as goal

-- the breaches so far are in order
abbrev pub invariant-loop-row : goal.invariant-loop-row
invariant-loop-row l = fold put (map breach_of l.places.keys) (drop l.row-index l.rows) ≡ in_order l.rows
