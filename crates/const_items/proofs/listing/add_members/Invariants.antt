use Rattle.std.proofs.Common.{◌≡◌, ◌++◌, map, drop, false}
use Rattle.aidl_syntax.specs.Trees.{members_of}
use Rattle.aidl_syntax.specs.Members.{listed}
use Rattle.aidl_syntax.specs.Sources.{source_of}
use Rattle.const_items.specs.Items.{of_members}
use Rattle.const_items.specs.ItemViews.{item_of}
use Rattle.const_items.proofs.listing.add_members.Given as goal

-- the items so far and those of the members that are left are all
abbrev pub invariant-loop-member : goal.invariant-loop-member
invariant-loop-member l =
    map item_of l.all.items ++ of_members (map source_of l.scope.files) l.scope.file l.scope.number l.in_union l.later (listed (members_of (drop l.member-index l.members)))
    ≡ map item_of l.fn.all.items ++ of_members (map source_of l.scope.files) l.scope.file l.scope.number l.in_union false (listed (members_of l.members))
