-- *Same*: when a type of one schema and a type of another are the same (own).
use Rattle.std.specs.Prelude.{ℕ, Bool, true, false, ◌&&◌, ◌==◌, nat_eq, if◌then◌else◌, List, Option, Some, None}
use Rattle.std.specs.Prelude.{slice_get}
use Rattle.std.specs.Cmp.Lexicographic.{pointwise}
use Rattle.aidl_base.specs.declared.name.Ident.{Ident}
use Rattle.aidl_schema.specs.declared.schema.Decl.{Decl}
use Rattle.aidl_schema.specs.declared.schema.Base.{Base}
use Rattle.aidl_schema.specs.declared.schema.Base.TheVariants as base
use Rattle.aidl_schema.specs.declared.schema.Shape.{Shape}
use Rattle.aidl_schema.specs.declared.schema.Shape.TheVariants as shape
use Rattle.aidl_schema.specs.declared.schema.AidlType.{AidlType}

-- the same characters
abbrev pub same_text : List ℕ → List ℕ → Bool
same_text = pointwise nat_eq

-- the same canonical name, part by part
abbrev pub same_idents : List Ident → List Ident → Bool
same_idents = pointwise (λ i j. same_text i.0 j.0)

-- declarations of the same canonical name
abbrev pub same_decl : Option Decl → Option Decl → Bool
same_decl (Some d) (Some e) = same_idents d.name.0 e.name.0
same_decl (Some d) None = false
same_decl None o = false

-- a number for each built-in base, and one for all declared ones
abbrev pub base_code : Base → ℕ
base_code base.Boolean = 0
base_code base.Byte = 1
base_code base.Char = 2
base_code base.Int = 3
base_code base.Long = 4
base_code base.Text = 5
base_code (base.Named n) = 6

-- a declared base
abbrev pub is_named : Base → Bool
is_named b = base_code b == 6

-- the declaration that a base names
abbrev pub decl_of : List Decl → Base → Option Decl
decl_of S (base.Named n) = slice_get S n
decl_of S _ = None

-- the same built-in base, or declarations of the same canonical name
abbrev pub same_base : List Decl → Base → List Decl → Base → Bool
same_base A b B c = (base_code b == base_code c) && (if is_named b then same_decl (decl_of A b) (decl_of B c) else true)

-- a number for each shape
abbrev pub shape_code : Shape → ℕ
shape_code shape.One = 0
shape_code shape.Array = 1
shape_code shape.List = 2

-- both true or both false
abbrev pub same_bool : Bool → Bool → Bool
same_bool true b = b
same_bool false true = false
same_bool false false = true

-- the same base, shape and nullable flag; the flags heap and utf8 don't count
abbrev pub same : List Decl → AidlType → List Decl → AidlType → Bool
same A t B u =
    same_base A t.base B u.base && ((shape_code t.shape == shape_code u.shape) && same_bool t.nullable u.nullable)
