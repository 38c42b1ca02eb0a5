use Rattle.std.proofs.Common.{◌≡◌, ◌++◌, map, drop}
use Rattle.aidl_syntax.specs.Trees.{exprs_of}
use Rattle.const_items.specs.Items.{of_expression}
use Rattle.const_items.specs.ItemViews.{item_of}
use Rattle.const_items.proofs.listing.add_each.Given as goal

-- the items so far and those of the expressions that are left are all
abbrev pub invariant-loop-tree : goal.invariant-loop-tree
invariant-loop-tree l =
    map item_of l.all.items ++ map (of_expression l.scope.file l.scope.number l.wanted l.unjudged) (exprs_of (drop l.tree-index l.trees))
    ≡ map item_of l.fn.all.items ++ map (of_expression l.scope.file l.scope.number l.wanted l.unjudged) (exprs_of l.trees)
