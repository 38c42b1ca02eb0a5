use Rattle.std.proofs.Common.{◌≡◌, ◌++◌, map, drop}
use Rattle.std.specs.List.{flat_map}
use Rattle.aidl_names.specs.Rules.{breaches_at, repeated, argument_names}
use Rattle.declared_names.specs.MemberViews.{seen_member}
use Rattle.aidl_names.proofs.duplicates.add_repeated_arguments.Given as goal

-- the breaches so far and those that are left are all
abbrev pub invariant-loop-member : goal.invariant-loop-member
invariant-loop-member l =
    l.rows.items ++ breaches_at 2 (flat_map (λ m. repeated l.file (argument_names m)) (map seen_member (drop l.member-index l.members)))
    ≡ l.fn.rows.items ++ breaches_at 2 (flat_map (λ m. repeated l.file (argument_names m)) (map seen_member l.members))
