-- The number of an item that is meant is below the count of all.
use Rattle.std.proofs.Common.{◌<◌, ◌≤◌, ℕ, List, length, map, Option, Some, None, IfSome}
use Rattle.aidl_syntax.specs.Trees.{offset_of}
use Rattle.const_items.specs.declared.item.ItemRef.{ItemRef}
use Rattle.const_items.specs.ItemViews.{item_of}
use Rattle.const_items.specs.Items.{place_of}
use Rattle.const_items.proofs.lemmas.Numbers.{at_within}
use Rattle.const_items.specs.Dependence.{Target, of_constant, of_enumerator, number_among}

pub among_within : (list : List ItemRef) (most : ℕ) (t : Option Target) → length list ≤ most → IfSome (number_among (map item_of list) t) (λ n. n < most)
among_within list most None l = tt
among_within list most (Some (of_constant file number c)) l = at_within list most file (offset_of c.value) l
among_within list most (Some (of_enumerator file number e)) l = at_within list most file (place_of e) l
