-- The type in the schema that a type of a tree is, with what its annotations keep (AOSP, "AIDL language", "Types").
use Rattle.std.specs.Prelude.{ℕ, List, Option, Some, None}
use Rattle.aidl_syntax.specs.declared.tree.TypeTree.{TypeTree}
use Rattle.aidl_syntax.specs.Trees.{Annot}
use Rattle.name_resolution.specs.declared.meaning.BuiltinName.{BuiltinName}
use Rattle.name_resolution.specs.declared.meaning.BuiltinName.TheVariants as built_in
use Rattle.name_resolution.specs.declared.meaning.Resolved.{Resolved}
use Rattle.name_resolution.specs.declared.meaning.Resolved.TheVariants.{Builtin, ListWord, LeftOut, Declared}
use Rattle.declared_names.specs.Declarations.{Entry, declarations}
use Rattle.aidl_syntax.specs.Sources.{Source}
use Rattle.type_shapes.specs.declared.shape.Shape as tree
use Rattle.type_shapes.specs.declared.shape.Shape.TheVariants.{One, Array, List as ListOf, Refused}
use Rattle.type_shapes.specs.Types.{shape_in}
use Rattle.aidl_schema.specs.declared.schema.Base.{Base}
use Rattle.aidl_schema.specs.declared.schema.Base.TheVariants as base
use Rattle.aidl_schema.specs.declared.schema.Shape.{Shape}
use Rattle.aidl_schema.specs.declared.schema.Shape.TheVariants as shape
use Rattle.aidl_schema.specs.declared.schema.AidlType.{AidlType}
use Rattle.tree_schema.specs.Numbers.{number_of}
use Rattle.type_uses.specs.Kept.{is_nullable, is_heap, is_utf8}

abbrev pub base_of_builtin : BuiltinName → Base
base_of_builtin built_in.Boolean = base.Boolean
base_of_builtin built_in.Byte = base.Byte
base_of_builtin built_in.Char = base.Char
base_of_builtin built_in.Int = base.Int
base_of_builtin built_in.Long = base.Long
base_of_builtin built_in.Text = base.Text

abbrev pub base_of_number : Option ℕ → Base
base_of_number None = base.Int
base_of_number (Some number) = base.Named number

-- The base that a name means. The list word and a left-out name are none: E16 and E5 refuse them, and int stands
-- for them.
abbrev pub base_of : List Entry → Resolved → Base
base_of entries (Builtin b) = base_of_builtin b
base_of entries (Declared number) = base_of_number (number_of entries number)
base_of entries ListWord = base.Int
base_of entries LeftOut = base.Int

-- a type with the flags that its annotations give
abbrev pub flagged : List Annot → Base → Shape → AidlType
flagged annots b s =
    record { base = b; shape = s; nullable = is_nullable annots; heap = is_heap annots; utf8 = is_utf8 annots }

-- For a type that E16 refuses an array of int stands: E22 and E23 take it as a sequence.
abbrev pub typed : List Entry → List Annot → tree.Shape → AidlType
typed entries annots (One r) = flagged annots (base_of entries r) shape.One
typed entries annots (Array r) = flagged annots (base_of entries r) shape.Array
typed entries annots (ListOf r) = flagged annots (base_of entries r) shape.List
typed entries annots Refused = flagged annots base.Int shape.Array

-- the type that is written in a file below a declaration, behind annotations
abbrev pub type_of : List Source → ℕ → ℕ → List Annot → TypeTree → AidlType
type_of files file scope annots ty = typed (declarations files) annots (shape_in files file scope ty)
