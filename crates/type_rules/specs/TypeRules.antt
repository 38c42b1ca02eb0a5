-- The check rules on types: the places in a declaration that break them.
use Rattle.std.specs.Prelude.{ℕ, Bool, true, false, not, ◌&&◌, ◌||◌, if◌then◌else◌, List, map, Option, Some, None}
use Rattle.std.specs.Prelude.{is_none}
use Rattle.std.specs.List.{filter, flat_map}
use Rattle.aidl_syntax.specs.declared.tree.WayTree.{WayTree}
use Rattle.aidl_syntax.specs.declared.tree.WayTree.TheVariants as way
use Rattle.aidl_syntax.specs.Trees.{Annot}
use Rattle.name_resolution.specs.declared.meaning.Resolved.TheVariants.{Builtin}
use Rattle.declared_names.specs.Declarations.{Entry}
use Rattle.type_shapes.specs.declared.shape.Shape.{Shape}
use Rattle.type_shapes.specs.declared.shape.Shape.TheVariants as shape
use Rattle.type_shapes.specs.Types.{is_composite}
use Rattle.type_uses.specs.Kept.{is_nullable_annot, is_heap_annot}
use Rattle.type_uses.specs.TypeUses.{TypeUse, of_field, of_constant, of_method, of_argument, annotations_of}
use Rattle.type_uses.specs.TypeUses.{name_place, type_place}
use Rattle.type_uses.specs.Bases.{is_one_composite, is_one_scalar, is_refused, is_refused_result}
use Rattle.type_rules.specs.Filters.{Rule, broken_where}

-- BadNullable, of fields, arguments and methods

abbrev pub result_refuses_nullable : List Entry → Option Shape → Bool
result_refuses_nullable entries None = true
result_refuses_nullable entries (Some t) = is_one_scalar entries t

abbrev pub refuses_nullable : List Entry → TypeUse → Bool
refuses_nullable entries (of_field f t) = is_one_scalar entries t
refuses_nullable entries (of_constant c t) = false
refuses_nullable entries (of_method m t) = result_refuses_nullable entries t
refuses_nullable entries (of_argument a t) = is_one_scalar entries t

abbrev pub refuses_heap : List Entry → TypeUse → Bool
refuses_heap entries (of_field f t) = not (is_refused t) && not (is_one_composite entries t)
refuses_heap entries (of_constant c t) = false
refuses_heap entries (of_method m t) = not (is_refused_result t)
refuses_heap entries (of_argument a t) = not (is_refused t)

abbrev pub is_bad_nullable : Bool → Bool → Annot → Bool
is_bad_nullable nullable heap a = (nullable && is_nullable_annot a) || (heap && is_heap_annot a)

-- in a list of annotations, where `@nullable` is refused, and where `heap=true` is
abbrev pub bad_nullables : Bool → Bool → List Annot → List ℕ
bad_nullables nullable heap annots = map (λ a. a.offset) (filter (is_bad_nullable nullable heap) annots)

-- of a use of a type
abbrev pub bad_nullables_of : List Entry → TypeUse → List ℕ
bad_nullables_of entries u = bad_nullables (refuses_nullable entries u) (refuses_heap entries u) (annotations_of u)

abbrev pub BadNullable : Rule
BadNullable entries e uses = flat_map (bad_nullables_of entries) uses

-- BadShape

abbrev pub is_bad_shape : TypeUse → Bool
is_bad_shape (of_field f t) = is_refused t
is_bad_shape (of_constant c t) = is_refused t
is_bad_shape (of_method m t) = is_refused_result t
is_bad_shape (of_argument a t) = is_refused t

abbrev pub BadShape : Rule
BadShape entries e uses = broken_where is_bad_shape type_place uses

-- BadDirection

-- `out` or `inout`
abbrev pub is_outward : Option WayTree → Bool
is_outward (Some way.Out) = true
is_outward (Some way.InOut) = true
is_outward _ = false

abbrev pub is_misdirected : List Entry → Shape → Option WayTree → Bool
is_misdirected entries (shape.One r) w = if is_composite entries r then is_none w else is_outward w
is_misdirected entries (shape.Array r) w = is_none w
is_misdirected entries (shape.List r) w = is_none w
is_misdirected entries shape.Refused w = false

abbrev pub is_bad_direction : List Entry → TypeUse → Bool
is_bad_direction entries (of_argument a t) = is_misdirected entries t a.way
is_bad_direction entries _ = false

abbrev pub BadDirection : Rule
BadDirection entries e uses = broken_where (is_bad_direction entries) name_place uses

-- BadConstant

abbrev pub is_constant_type : Shape → Bool
is_constant_type (shape.One (Builtin b)) = true
is_constant_type _ = false

abbrev pub is_bad_constant : TypeUse → Bool
is_bad_constant (of_constant c t) = not (is_constant_type t)
is_bad_constant _ = false

abbrev pub BadConstant : Rule
BadConstant entries e uses = broken_where is_bad_constant name_place uses
