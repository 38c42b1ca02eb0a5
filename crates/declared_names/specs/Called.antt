-- A member by its name: the first one that has it (own; with two of a name the rule E2 is broken).
use Rattle.std.specs.Prelude.{ℕ, Bool, List, Option, Some, None}
use Rattle.std.specs.Borrow.{Bor}
use Rattle.std.specs.List.{find, slice_get}
use Rattle.std.specs.Str.{bytes_eq}
use Rattle.indexmap.specs.IndexMap.{IndexMap, get_by}
use Rattle.aidl_base.specs.declared.name.Ident.{Ident}
use Rattle.aidl_syntax.specs.Trees.{map_option}
use Rattle.aidl_syntax.specs.Members.{Member, members, body, member_name}
use Rattle.declared_names.specs.declared.member_refs.MemberRef.{MemberRef}
use Rattle.declared_names.specs.Names.{text}
use Rattle.declared_names.specs.Declarations.{Entry}
use Rattle.declared_names.specs.MemberViews.{seen_member}

-- its name has these bytes
abbrev pub is_called : List ℕ → Member → Bool
is_called bytes m = bytes_eq (text (member_name m).name) bytes

-- the member of that name in a declaration
abbrev pub called : Entry → Ident → Option Member
called e name = find (is_called (text name)) (members (body e.tree))

-- the member of that name in the declaration with that number
abbrev pub called_at : List Entry → ℕ → Ident → Option Member
called_at entries number name = elim (slice_get entries number) [ None ↦ None | Some e ↦ called e name ]

-- what a table has for a name
abbrev pub seen_table : {S : Type 0} → IndexMap (Bor (List ℕ)) MemberRef S → Ident → Option Member
seen_table table name = map_option seen_member (get_by (λ k. bytes_eq (text name) k.now) table)
