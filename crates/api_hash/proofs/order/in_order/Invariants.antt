use Rattle.std.proofs.Common.{◌≡◌, map, drop, []}
use Rattle.std.specs.List.{fold}
use Rattle.api_hash.specs.HashText.{put}
use Rattle.api_hash.proofs.Orders.{IsKeyed, seen}
use Rattle.api_hash.proofs.order.in_order.Given as goal

-- each file so far stands at its path, and these are in order
abbrev pub invariant-loop-file : goal.invariant-loop-file
invariant-loop-file l = IsKeyed l.places.entries × (fold put (map seen l.places.entries) (drop l.file-index l.files) ≡ fold put [] l.files)
