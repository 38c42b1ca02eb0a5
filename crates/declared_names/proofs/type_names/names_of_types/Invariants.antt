use Rattle.std.proofs.Common.{◌≡◌, ◌++◌, map, drop}
use Rattle.std.specs.List.{flat_map}
use Rattle.declared_names.specs.TypeNames.{type_names}
use Rattle.declared_names.specs.MemberViews.{seen_member}
use Rattle.declared_names.proofs.type_names.names_of_types.Given as goal

-- the names so far and those that are left are all
abbrev pub invariant-loop-member : goal.invariant-loop-member
invariant-loop-member l =
    map (λ d. d.now) l.names.items ++ flat_map type_names (map seen_member (drop l.member-index l.member-items)) ≡ flat_map type_names (map seen_member l.member-items)
