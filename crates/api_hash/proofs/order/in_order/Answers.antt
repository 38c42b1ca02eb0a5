use Rattle.std.proofs.Common.{[], refl, arith}
use Rattle.std.specs.List.{fold}
use Rattle.api_hash.specs.HashText.{put}
use Rattle.api_hash.proofs.Orders.{next_in}
use Rattle.api_hash.proofs.order.in_order.Goals as goal

pub loop-file-preserved : goal.loop-file-preserved
loop-file-preserved c =
    next_in _ (λ a b. refl) c.as_str.result _ c.as_str.ensures.bytes c.loop-file.places.entries c.insert.new.self.entries c.args.files.now (fold put [] c.args.files.now)
    c.loop-file.file-index c.in_ok-insert.ensures.entries (omega arith) c.file-item.is c.loop-file.invariant
