use Rattle.std.proofs.Common.{◌≡◌, ◌++◌, ◌||◌, map, drop}
use Rattle.aidl_syntax.specs.Sources.{source_of}
use Rattle.const_items.specs.Dependence.{is_unknown_among, numbers_of}
use Rattle.const_items.specs.ItemViews.{item_of}
use Rattle.const_items.proofs.dependence.of_item.Given as goal

-- what is found and what is left to find is all
abbrev pub invariant-loop-name : goal.invariant-loop-name
invariant-loop-name l = record {
  numbers : l.numbers.items ++ numbers_of (map source_of l.names) (item_of l.item) (map (λ d. d.now) (drop l.name-index l.name-items))
      ≡ numbers_of (map source_of l.names) (item_of l.item) (map (λ d. d.now) l.name-items);
  unknown : (l.unknown || is_unknown_among (map source_of l.names) (item_of l.item) (map (λ d. d.now) (drop l.name-index l.name-items)))
      ≡ is_unknown_among (map source_of l.names) (item_of l.item) (map (λ d. d.now) l.name-items);
}
