-- Where a declaration uses types: its fields, its constants, what its methods return and their arguments, each with
-- what the type is.
use Rattle.std.specs.Prelude.{ℕ, Bool, true, false, List, [], ◌∷◌, map, Option, Some, None}
use Rattle.std.specs.List.{flat_map}
use Rattle.aidl_syntax.specs.declared.tree.TypeTree.{TypeTree}
use Rattle.aidl_syntax.specs.Trees.{Annot, Field, Constant, Method, Arg, map_option}
use Rattle.aidl_syntax.specs.Members.{Member, members, body}
use Rattle.aidl_syntax.specs.Members.Member.{field, constant, method, enumerator, nested}
use Rattle.aidl_syntax.specs.Sources.{Source}
use Rattle.declared_names.specs.Declarations.{Entry}
use Rattle.type_shapes.specs.declared.shape.Shape.{Shape}
use Rattle.type_shapes.specs.Types.{shape_in}
use Rattle.type_uses.specs.declared.stand.Stand.{Stand}
use Rattle.type_uses.specs.declared.stand.Stand.TheVariants as stand

-- a method stands with what its return type is, which it has not where it returns void
pub data TypeUse : Type 0 where
  of_field : Field → Shape → TypeUse
  of_constant : Constant → Shape → TypeUse
  of_method : Method → Option Shape → TypeUse
  of_argument : Arg → Shape → TypeUse

abbrev pub of_arg : (TypeTree → Shape) → Arg → TypeUse
of_arg shape a = of_argument a (shape a.ty)

-- a method, and then its arguments
abbrev pub of_method_tree : (TypeTree → Shape) → Method → List TypeUse
of_method_tree shape m = of_method m (map_option shape m.returned) ∷ map (of_arg shape) m.args

-- the uses in a member, by what types are there
abbrev pub of_member : (TypeTree → Shape) → Member → List TypeUse
of_member shape (field f) = of_field f (shape f.ty) ∷ []
of_member shape (constant c) = of_constant c (shape c.ty) ∷ []
of_member shape (method m) = of_method_tree shape m
of_member shape (enumerator e) = []
of_member shape (nested d) = []

abbrev pub of_members : (TypeTree → Shape) → List Member → List TypeUse
of_members shape ms = flat_map (of_member shape) ms

-- the uses in the declaration with a number, in the order of the file; nested declarations have a number of their own
abbrev pub type_uses : List Source → ℕ → Entry → List TypeUse
type_uses files number e = of_members (shape_in files e.file number) (members (body e.tree))

-- the annotations before it; those before a method are of what it returns
abbrev pub annotations_of : TypeUse → List Annot
annotations_of (of_field f t) = f.annots
annotations_of (of_constant c t) = c.annots
annotations_of (of_method m t) = m.annots
annotations_of (of_argument a t) = a.annots

abbrev pub stand_of_returned : Option Shape → Stand
stand_of_returned None = stand.Void
stand_of_returned (Some t) = stand.Type t

-- where these stand
abbrev pub stand_of : TypeUse → Stand
stand_of (of_field f t) = stand.Type t
stand_of (of_constant c t) = stand.Constant
stand_of (of_method m t) = stand_of_returned t
stand_of (of_argument a t) = stand.Type t

-- the place of its name
abbrev pub name_place : TypeUse → ℕ
name_place (of_field f t) = f.name.offset
name_place (of_constant c t) = c.name.offset
name_place (of_method m t) = m.name.offset
name_place (of_argument a t) = a.name.offset

abbrev pub place_of_returned : Option TypeTree → ℕ
place_of_returned None = 0
place_of_returned (Some ty) = ty.name.offset

-- the place of the type; void has none
abbrev pub type_place : TypeUse → ℕ
type_place (of_field f t) = f.ty.name.offset
type_place (of_constant c t) = c.ty.name.offset
type_place (of_method m t) = place_of_returned m.returned
type_place (of_argument a t) = a.ty.name.offset

abbrev pub is_field : TypeUse → Bool
is_field (of_field f t) = true
is_field _ = false

-- the methods among the uses
abbrev pub methods_at : TypeUse → List Method
methods_at (of_method m t) = m ∷ []
methods_at _ = []

abbrev pub methods_in : List TypeUse → List Method
methods_in uses = flat_map methods_at uses
