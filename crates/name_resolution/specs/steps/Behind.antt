-- What a name means through imports, from the side of the declarations whose names end in it.
use Rattle.std.specs.Prelude.{ℕ, ◌-◌, nat_lt, is_some, if◌then◌else◌, List, [], ◌∷◌, take, length, Option, Some, None}
use Rattle.std.specs.Borrow.{Bor}
use Rattle.std.specs.List.{slice_get, position_from}
use Rattle.aidl_base.specs.declared.name.Ident.{Ident}
use Rattle.aidl_syntax.specs.declared.tree.DottedTree.{DottedTree}
use Rattle.declared_names.specs.declared.ends.End.{End}
use Rattle.name_resolution.specs.declared.meaning.Resolved.{Resolved}
use Rattle.declared_names.specs.Names.{same}
use Rattle.declared_names.specs.Declarations.{Entry}
use Rattle.name_resolution.specs.Resolution.{first_declared, imported}

-- what a name means through one import
abbrev pub through : List Entry → Ident → List Ident → DottedTree → Option Resolved
through es first rest i = first_declared es (imported (i ∷ []) (first ∷ rest))

-- through the import at a place
abbrev pub through_at : List Entry → Ident → List Ident → List (Bor DottedTree) → ℕ → Option Resolved
through_at es first rest imports place =
    elim (slice_get imports place) [ None ↦ None | Some i ↦ through es first rest i.now ]

-- the first import with a whole name
abbrev pub place_of : List (Bor DottedTree) → List Ident → Option ℕ
place_of imports name = position_from (λ i. same i.now.name.0 name) 0 imports

-- a name without so many parts at its back
abbrev pub without : List Ident → ℕ → List Ident
without name back = take (length name - back) name

-- this place, where the name means something through the import there
abbrev pub if_through : List Entry → Ident → List Ident → List (Bor DottedTree) → Option ℕ → Option ℕ
if_through es first rest imports None = None
if_through es first rest imports (Some place) = if is_some (through_at es first rest imports place)
    then Some place else None

-- where a declared name leads, which may end in the whole name: the import that has what stands before the other parts
abbrev pub led : List Entry → Ident → List Ident → List (Bor DottedTree) → List Ident → Option ℕ
led es first rest imports declared =
    if_through es first rest imports (place_of imports (without declared (length rest)))

-- where that of the declaration with a number leads
abbrev pub led_by : List Entry → Ident → List Ident → List (Bor DottedTree) → ℕ → Option ℕ
led_by es first rest imports number =
    elim (slice_get es number) [ None ↦ None | Some e ↦ led es first rest imports e.name ]

-- where the end at a place leads
abbrev pub led_at : List Entry → Ident → List Ident → List (Bor DottedTree) → List End → ℕ → Option ℕ
led_at es first rest imports ends place =
    elim (slice_get ends place) [ None ↦ None | Some e ↦ led_by es first rest imports e.owner ]

-- the earlier of two places
abbrev pub earlier : Option ℕ → Option ℕ → Option ℕ
earlier None b = b
earlier (Some a) None = Some a
earlier (Some a) (Some b) = if nat_lt b a then Some b else Some a

-- the first place of an import through which the name means something
abbrev pub first_through : List Entry → Ident → List Ident → List (Bor DottedTree) → Option ℕ
first_through es first rest imports = position_from (λ i. is_some (through es first rest i.now)) 0 imports
