-- How the items that the code finds are seen.
use Rattle.std.specs.Prelude.{ℕ, Bool, ◌&&◌, nat_eq}
use Rattle.aidl_syntax.specs.Trees.{expr_of}
use Rattle.const_items.specs.declared.item.ItemRef.{ItemRef}
use Rattle.const_items.specs.declared.item.WrittenRef.{WrittenRef}
use Rattle.const_items.specs.declared.item.WrittenRef.TheVariants as part
use Rattle.const_items.specs.Items.{Item, Written, written, first, after}

abbrev pub written_of : WrittenRef → Written
written_of (part.Expression e) = written (expr_of e.now)
written_of part.First = first
written_of (part.After place) = after place

abbrev pub item_of : ItemRef → Item
item_of x = record {
  file = x.file;
  scope = x.scope;
  place = x.place;
  enumerates = x.enumerates;
  wanted = x.wanted;
  unjudged = x.unjudged;
  value = written_of x.value;
}

-- two places are the same: the file and the offset
abbrev pub same_place : ℕ × ℕ → ℕ × ℕ → Bool
same_place a b = nat_eq a.0 b.0 && nat_eq a.1 b.1
