use Rattle.std.proofs.Common.{◌<◌, IfSome, ℕ, Option, sym, subst, arith}
use Rattle.const_items.specs.TargetViews.{seen_targets}
use Rattle.const_items.proofs.Within.{among_within}
use Rattle.const_items.proofs.dependence.of_item.Goals as goal

-- there are few items
pub add_found-requires : goal.add_found-requires
add_found-requires c =
    subst (λ (o : Option ℕ). IfSome o (λ n. n < 4294967296)) (sym c.number_of.ensures)
    (among_within c.args.items.now.list.items 4294967296 (seen_targets c.target_of-target.result) (omega (arith, c.args.items.now.few)))
