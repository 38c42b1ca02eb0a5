use Rattle.std.proofs.Common.{◌≡◌, map, drop}
use Rattle.aidl_syntax.specs.Trees.{members_of}
use Rattle.declared_names.specs.Declarations.{with_members}
use Rattle.declared_names.specs.Entries.{entry_of}
use Rattle.declared_names.proofs.walking.+decl.Given as goal

-- the members that are left add what all add
abbrev pub invariant-add_members-loop-member : goal.invariant-add_members-loop-member
invariant-add_members-loop-member l =
    with_members l.file l.number l.name (members_of (drop l.member-index l.members)) (map entry_of l.found.items)
    ≡ with_members l.fn.file l.fn.number l.fn.name (members_of l.fn.members) (map entry_of l.fn.found.items)
