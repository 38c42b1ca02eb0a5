use Rattle.std.proofs.Common.{refl}
use Rattle.tree_make.proofs.Orders.{next_in}
use Rattle.tree_make.proofs.numbers.in_order.Goals as goal

pub loop-number-preserved : goal.loop-number-preserved
loop-number-preserved c =
    next_in _ (λ a b. refl) c.in_ok-decimal.decimal c.loop-number.number-counter c.in_ok-decimal.ensures.ok c.loop-number.places.entries c.insert.new.self.entries
    c.in_ok-insert.ensures.entries c.loop-number.invariant
