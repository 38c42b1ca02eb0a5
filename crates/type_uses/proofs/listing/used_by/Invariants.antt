use Rattle.std.proofs.Common.{◌≡◌, ◌++◌, map, drop}
use Rattle.aidl_syntax.specs.Trees.{members_of}
use Rattle.aidl_syntax.specs.Members.{listed}
use Rattle.aidl_syntax.specs.Sources.{source_of}
use Rattle.type_shapes.specs.Types.{shape_in}
use Rattle.type_uses.specs.TypeUses.{of_members}
use Rattle.type_uses.specs.TypeUseViews.{seen_use}
use Rattle.type_uses.proofs.listing.used_by.Given as goal

-- the uses so far and those of the members that are left are all
abbrev pub invariant-loop-member : goal.invariant-loop-member
invariant-loop-member l =
    map seen_use l.uses.items ++ of_members (shape_in (map source_of l.names) l.file l.number) (listed (members_of (drop l.member-index l.members)))
    ≡ of_members (shape_in (map source_of l.names) l.file l.number) (listed (members_of l.members))
