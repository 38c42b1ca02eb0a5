-- The limits on declarations, in the order in which they are named (own).
use Rattle.std.specs.Prelude.{Bool, false, nat_lt, if◌then◌else◌, List, length, Option, Some, None}
use Rattle.std.specs.List.{list_any}
use Rattle.aidl_base.specs.declared.limit.LimitName.{LimitName}
use Rattle.aidl_base.specs.declared.limit.LimitName.TheVariants as limit
use Rattle.aidl_syntax.specs.Members.{Member, members, body}
use Rattle.aidl_syntax.specs.Members.Member.{field, constant, method, enumerator, nested}
use Rattle.declared_names.specs.Declarations.{Entry}

-- a declaration has more than 4,096 members
abbrev pub has_many_members : Entry → Bool
has_many_members e = nat_lt 4096 (length (members (body e.tree)))

-- a method has more than 255 arguments
abbrev pub is_long_method : Member → Bool
is_long_method (method m) = nat_lt 255 (length m.args)
is_long_method (field f) = false
is_long_method (constant c) = false
is_long_method (enumerator e) = false
is_long_method (nested d) = false

abbrev pub has_long_method : Entry → Bool
has_long_method e = list_any is_long_method (members (body e.tree))

-- the first limit that the declarations of a tree pass
abbrev pub passed : List Entry → Option LimitName
passed entries = if nat_lt 16384 (length entries) then Some limit.Declarations
    else (if list_any has_many_members entries then Some limit.Members
    else (if list_any has_long_method entries then Some limit.Arguments else None))
