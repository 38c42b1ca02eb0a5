use Rattle.std.proofs.Common.{◌≡◌, ◌++◌, map, drop}
use Rattle.aidl_syntax.specs.Sources.{source_of}
use Rattle.declared_names.specs.Numbered.{in_each}
use Rattle.declared_names.specs.Entries.{entry_of}
use Rattle.const_items.specs.Items.{of_entry, declared}
use Rattle.const_items.specs.ItemViews.{item_of}
use Rattle.const_items.proofs.listing.declared.Given as goal

-- the items so far and those of the declarations that are left are all
abbrev pub invariant-loop-i : goal.invariant-loop-i
invariant-loop-i l =
    map item_of l.all.items ++ in_each (of_entry (map source_of l.names)) l.i (map entry_of (drop l.i l.found))
    ≡ declared (map source_of l.names)
