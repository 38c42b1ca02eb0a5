use Rattle.std.proofs.Common.{◌≡◌, map, take}
use Rattle.aidl_syntax.specs.Trees.{enumerator_of}
use Rattle.aidl_syntax.specs.Members.Member.{enumerator}
use Rattle.declared_names.specs.MemberViews.{seen_member}
use Rattle.declared_names.proofs.member_refs.counted.Given as goal

abbrev pub invariant-loop-item : goal.invariant-loop-item
invariant-loop-item l = map seen_member l.all.items ≡ map enumerator (map enumerator_of (take l.item-index l.enumerators))
