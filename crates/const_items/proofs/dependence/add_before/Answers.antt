use Rattle.std.proofs.Common.{◌<◌, IfSome, ℕ, Option, sym, subst, arith}
use Rattle.const_items.proofs.lemmas.Numbers.{at_within}
use Rattle.const_items.proofs.dependence.add_before.Goals as goal

-- there are few items
pub add_found-requires : goal.add_found-requires
add_found-requires c =
    subst (λ (o : Option ℕ). IfSome o (λ n. n < 4294967296)) (sym c.number_at.ensures)
    (at_within c.args.items.now.list.items 4294967296 c.args.item.now.file c.in-After.place (omega (arith, c.args.items.now.few)))
