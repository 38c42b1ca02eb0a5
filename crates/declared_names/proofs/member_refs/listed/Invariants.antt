use Rattle.std.proofs.Common.{◌≡◌, ◌++◌, map, drop}
use Rattle.aidl_syntax.specs.Trees.{members_of}
use Rattle.aidl_syntax.specs.Members.{listed}
use Rattle.declared_names.specs.MemberViews.{seen_member}
use Rattle.declared_names.proofs.member_refs.listed.Given as goal

-- the members so far and those that are left are all
abbrev pub invariant-loop-member : goal.invariant-loop-member
invariant-loop-member l = map seen_member l.all.items ++ listed (members_of (drop l.member-index l.members)) ≡ listed (members_of l.members)
