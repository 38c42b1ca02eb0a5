-- The members of a record's object in the order of their keys, each with the text of its key, and the place and the
-- type of its field.
use Rattle.std.specs.Prelude.{◌≡◌, ◌<◌, ℕ, suc, false, List, [], ◌∷◌, ◌++◌, length, get_or, string_bytes}
use Rattle.std.specs.Prelude.{Some, option_map, slice_get}
use Rattle.std.specs.List.{All}
use Rattle.serde_json.specs.Data.{Data, Members, no_members, put}
use Rattle.serde_json.specs.Written.{compact_text, members_text}
use Rattle.aidl_schema.specs.declared.schema.Decl.{Decl}
use Rattle.aidl_schema.specs.declared.schema.Field.{Field}
use Rattle.aidl_values.specs.Data as value
use Rattle.aidl_values.specs.HasType.{HasType}
use Rattle.json_writing.specs.Named.{bytes_of}
use Rattle.json_writing.specs.ValueText.{value_text}
use Rattle.json_writing.specs.declared.members.Member.{Member}

-- each key's text with the text of its part, before the closing bracket
abbrev pub row_text : (Member → List ℕ) → List Member → List ℕ
row_text text [] = []
row_text text (m ∷ row) = string_bytes m.key ++ (text m ++ row_text text row)

-- the object's members by fields, the first of which is at this place, where each part is written so
abbrev pub members_from : (ℕ → Data) → ℕ → List Field → Members
members_from part i [] = no_members
members_from part i (f ∷ fs) = put (bytes_of f.name) (part i) (members_from part (suc i) fs)

-- The row prints the object's members, whatever the parts are written as.
abbrev pub PrintsMembers : List Field → List Member → Type 0
PrintsMembers fs row = (part : ℕ → Data)
    → row_text (λ m. compact_text (part m.place)) row ++ 125 ∷ [] ≡ members_text false (members_from part 0 fs)

-- A member's type is that of the field at its place.
abbrev pub IsOf : List Field → Member → Type 0
IsOf fs m = option_map (λ f. f.ty) (slice_get fs m.place) ≡ Some m.ty

-- the row of a declaration's members, by its fields
abbrev pub IsRow : List Field → List Member → Type 0
IsRow fs row = PrintsMembers fs row × All (IsOf fs) row

-- the value of a member's field, among those of all fields
abbrev pub value_at : List value.Data → Member → value.Data
value_at vs m = get_or vs m.place value.null

-- There is one, and it has the member's type.
abbrev pub IsTyped : List Decl → List value.Data → Member → Type 0
IsTyped S vs m = (m.place < length vs) × HasType S m.ty (value_at vs m)

-- its text
abbrev pub part_text : List Decl → List value.Data → Member → List ℕ
part_text S vs m = value_text S m.ty (value_at vs m)
