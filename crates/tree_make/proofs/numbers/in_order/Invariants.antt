use Rattle.std.proofs.Common.{◌≡◌}
use Rattle.tree_make.specs.Made.{in_order}
use Rattle.tree_make.proofs.Orders.{AreKeyed, numbers}
use Rattle.tree_make.proofs.numbers.in_order.Given as goal

-- each number so far stands at its decimal, and these are in order
abbrev pub invariant-loop-number : goal.invariant-loop-number
invariant-loop-number l = AreKeyed l.places.entries × (numbers l.places.entries ≡ in_order l.number-counter)
