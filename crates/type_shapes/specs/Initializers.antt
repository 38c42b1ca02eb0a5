-- Which initializers of fields are refused by their form alone (E21, own).
use Rattle.std.specs.Prelude.{Bool, true, false, ◌&&◌, ◌||◌, List, [], ◌∷◌}
use Rattle.aidl_syntax.specs.Trees.{Expr, Init}
use Rattle.aidl_syntax.specs.Trees.Init.{single, braces}
use Rattle.declared_names.specs.Declarations.{Entry}
use Rattle.type_shapes.specs.declared.shape.Shape.{Shape}
use Rattle.type_shapes.specs.declared.shape.Shape.TheVariants as shape
use Rattle.type_shapes.specs.Types.{is_composite}

abbrev pub is_some_list : List Expr → Bool
is_some_list [] = false
is_some_list (e ∷ es) = true

-- A type takes no expression: a sequence, a single parcelable or union, and one that E16 refuses.
abbrev pub refuses_single : List Entry → Shape → Bool
refuses_single entries (shape.One r) = is_composite entries r
refuses_single entries _ = true

-- A type takes no such brace list: a single value and a type that E16 refuses take none, and a sequence of
-- parcelables or unions only the empty one.
abbrev pub refuses_braces : List Entry → Shape → Bool → Bool
refuses_braces entries (shape.One r) some = true
refuses_braces entries (shape.Array r) some = is_composite entries r && some
refuses_braces entries (shape.List r) some = is_composite entries r && some
refuses_braces entries shape.Refused some = true

abbrev pub misfits : List Entry → Shape → Init → Bool
misfits entries t (single e) = refuses_single entries t
misfits entries t (braces offset es) = refuses_braces entries t (is_some_list es)

-- The initializer of a field has no outcome: the field isn't the first of a union, or its type is one that E16
-- refuses, or the form of the initializer doesn't fit the type.
abbrev pub is_unjudged : List Entry → Bool → Shape → Init → Bool
is_unjudged entries later_in_union t init = later_in_union || misfits entries t init
