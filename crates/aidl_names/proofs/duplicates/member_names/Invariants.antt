use Rattle.std.proofs.Common.{◌≡◌, map, take}
use Rattle.aidl_syntax.specs.Members.{member_name}
use Rattle.declared_names.specs.MemberViews.{seen_member}
use Rattle.aidl_names.proofs.duplicates.member_names.Given as goal

abbrev pub invariant-loop-member : goal.invariant-loop-member
invariant-loop-member l = map (λ n. n.now) l.names.items ≡ map member_name (map seen_member (take l.member-index l.members))
