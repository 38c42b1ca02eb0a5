-- The check rules on fields: the places in a declaration that break them.
use Rattle.std.specs.Prelude.{ℕ, Bool, true, false, not, ◌&&◌, ◌||◌, if◌then◌else◌, List, [], ◌∷◌, ◌++◌, Option}
use Rattle.std.specs.Prelude.{Some, None}
use Rattle.std.specs.List.{list_any}
use Rattle.aidl_syntax.specs.Trees.{Init, Body}
use Rattle.aidl_syntax.specs.Trees.Body.{union}
use Rattle.aidl_syntax.specs.Members.{body, declared_name}
use Rattle.declared_names.specs.Declarations.{Entry}
use Rattle.type_shapes.specs.declared.shape.Shape.{Shape}
use Rattle.type_shapes.specs.declared.shape.Shape.TheVariants as shape
use Rattle.type_shapes.specs.Initializers.{is_unjudged}
use Rattle.type_uses.specs.Kept.{is_nullable}
use Rattle.type_uses.specs.TypeUses.{TypeUse, of_field, name_place, is_field}
use Rattle.type_uses.specs.Bases.{is_fixed_entry, is_fixed_base, is_refused}
use Rattle.type_rules.specs.Filters.{Rule, broken_where}

-- BadField; all but a union without a field are the initializers that have no outcome for their form

abbrev pub is_bad_initial : List Entry → Bool → Shape → Option Init → Bool
is_bad_initial entries later t None = false
is_bad_initial entries later t (Some init) = not (is_refused t) && is_unjudged entries later t init

-- `later` says that a field of the same union stands before it
abbrev pub is_bad_field : List Entry → Bool → TypeUse → Bool
is_bad_field entries later (of_field f t) = is_bad_initial entries later t f.initial
is_bad_field entries later _ = false

abbrev pub bad_fields : List Entry → Bool → Bool → List TypeUse → List ℕ
bad_fields entries in_union later [] = []
bad_fields entries in_union later (u ∷ uses) = (if is_bad_field entries later u then name_place u ∷ [] else [])
    ++ bad_fields entries in_union (later || (in_union && is_field u)) uses

abbrev pub is_union_body : Body → Bool
is_union_body (union ms) = true
is_union_body _ = false

-- a union without a field
abbrev pub is_empty_union : Entry → List TypeUse → Bool
is_empty_union e uses = is_union_body (body e.tree) && not (list_any is_field uses)

abbrev pub empty_union : Entry → List TypeUse → List ℕ
empty_union e uses = if is_empty_union e uses then (declared_name e.tree).offset ∷ [] else []

abbrev pub BadField : Rule
BadField entries e uses = empty_union e uses ++ bad_fields entries (is_union_body (body e.tree)) false uses

-- NotFixed

abbrev pub has_fixed_size : List Entry → Shape → Bool
has_fixed_size entries (shape.One r) = is_fixed_base entries r
has_fixed_size entries _ = false

abbrev pub is_unfixed : List Entry → TypeUse → Bool
is_unfixed entries (of_field f t) = not (is_refused t) && (is_nullable f.annots || not (has_fixed_size entries t))
is_unfixed entries _ = false

abbrev pub NotFixed : Rule
NotFixed entries e uses = if is_fixed_entry e then broken_where (is_unfixed entries) name_place uses else []
