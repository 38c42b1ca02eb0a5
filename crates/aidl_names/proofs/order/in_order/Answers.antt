use Rattle.std.proofs.Common.{refl, arith}
use Rattle.aidl_names.proofs.Orders.{next_in}
use Rattle.aidl_names.proofs.order.in_order.Goals as goal

pub loop-row-preserved : goal.loop-row-preserved
loop-row-preserved c =
    next_in _ (λ a b. refl) c.loop-row.places.keys c.insert.new.self.keys _ c.args.rows.now _ c.loop-row.row-index (record { rule = 0; file = 0; offset = 0 })
    c.in_ok-insert.ensures.keys (omega arith) refl c.loop-row.invariant
