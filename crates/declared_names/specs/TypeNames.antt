-- The names of types that a member has.
use Rattle.std.specs.Prelude.{List, [], ◌∷◌, ◌++◌, Option, Some, None}
use Rattle.std.specs.List.{flat_map}
use Rattle.aidl_syntax.specs.declared.tree.DottedTree.{DottedTree}
use Rattle.aidl_syntax.specs.declared.tree.TypeTree.{TypeTree}
use Rattle.aidl_syntax.specs.Members.{Member}
use Rattle.aidl_syntax.specs.Members.Member.{field, constant, method, enumerator, nested}

-- a type's name, and its element's
abbrev pub names_of_type : TypeTree → List DottedTree
names_of_type t = t.name ∷ (elim t.element [ None ↦ [] | Some d ↦ d ∷ [] ])

abbrev pub names_of_returned : Option TypeTree → List DottedTree
names_of_returned None = []
names_of_returned (Some t) = names_of_type t

-- those of a member
abbrev pub type_names : Member → List DottedTree
type_names (field f) = names_of_type f.ty
type_names (constant c) = names_of_type c.ty
type_names (method m) = names_of_returned m.returned ++ flat_map (λ a. names_of_type a.ty) m.args
type_names (enumerator e) = []
type_names (nested d) = []
