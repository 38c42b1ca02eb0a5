-- How the code sees a tree that is evaluated.
use Rattle.std.specs.Prelude.{List, map}
use Rattle.aidl_syntax.specs.Sources.{Source, source_of}
use Rattle.const_items.specs.Items.{Item}
use Rattle.const_items.specs.ItemViews.{item_of}
use Rattle.const_eval.specs.declared.tree.TreeItems.{TreeItems}
use Rattle.const_eval.specs.Known.{AreItems}

abbrev pub files_of : TreeItems → List Source
files_of t = map source_of t.names.now

abbrev pub items_of : TreeItems → List Item
items_of t = map item_of t.items.now.list.items

-- its items are those of the tree
abbrev pub HasItems : TreeItems → Type 0
HasItems t = AreItems (files_of t) (items_of t)
