use Rattle.std.proofs.Common.{◌≡◌, ◌++◌, map, drop, None}
use Rattle.aidl_syntax.specs.Trees.{enumerator_of}
use Rattle.const_items.specs.Items.{of_enumerators}
use Rattle.const_items.specs.ItemViews.{item_of}
use Rattle.const_items.proofs.listing.add_enumerators.Given as goal

-- the items so far and those of the enumerators that are left are all
abbrev pub invariant-loop-enumerator : goal.invariant-loop-enumerator
invariant-loop-enumerator l =
    map item_of l.all.items ++ of_enumerators l.scope.file l.scope.number l.backing l.before (map enumerator_of (drop l.enumerator-index l.enumerators))
    ≡ map item_of l.fn.all.items ++ of_enumerators l.scope.file l.scope.number l.backing None (map enumerator_of l.enumerators)
