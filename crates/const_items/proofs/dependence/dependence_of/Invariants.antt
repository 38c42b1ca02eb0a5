use Rattle.std.proofs.Common.{◌≡◌, map, take}
use Rattle.aidl_syntax.specs.Sources.{source_of}
use Rattle.const_items.specs.Dependence.{depends_on, has_unknown_name}
use Rattle.const_items.specs.ItemViews.{item_of}
use Rattle.const_items.proofs.dependence.dependence_of.Given as goal

-- those of the items so far
abbrev pub invariant-loop-item : goal.invariant-loop-item
invariant-loop-item l = record {
  next : l.next.items ≡ map (depends_on (map source_of l.names)) (map item_of (take l.item-index l.list));
  unknown : l.unknown.items ≡ map (has_unknown_name (map source_of l.names)) (map item_of (take l.item-index l.list));
}
