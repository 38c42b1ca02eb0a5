use Rattle.std.proofs.Common.{◌∙◌, map, length, sym, arith}
use Rattle.const_items.specs.Items.{number_at}
use Rattle.const_items.specs.ItemViews.{item_of}
use Rattle.const_items.proofs.lemmas.Numbers.{at_within}
use Rattle.tree_schema.proofs.Within.{numbered_within}
use Rattle.tree_schema.proofs.scope.Scope.value_at.Goals as goal

-- the number that was found is that of an item
pub outcome-requires : goal.outcome-requires
outcome-requires c =
    let list = c.self.inside.settled.now.items.list.items in
    numbered_within (number_at (map item_of list) c.self.inside.file c.args.place) c.in_ok-init.init (length list)
    (sym c.init_at.ensures.exact ∙ c.in_ok-init.was) (at_within list (length list) c.self.inside.file c.args.place (omega arith))
