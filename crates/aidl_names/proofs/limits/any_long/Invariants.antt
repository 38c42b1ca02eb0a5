use Rattle.std.proofs.Common.{◌≡◌, map, drop}
use Rattle.std.specs.List.{list_any}
use Rattle.aidl_names.specs.Limits.{is_long_method}
use Rattle.declared_names.specs.MemberViews.{seen_member}
use Rattle.aidl_names.proofs.limits.any_long.Given as goal

-- what is left decides
abbrev pub invariant-loop-member : goal.invariant-loop-member
invariant-loop-member l = list_any is_long_method (map seen_member (drop l.member-index l.members)) ≡ list_any is_long_method (map seen_member l.members)
