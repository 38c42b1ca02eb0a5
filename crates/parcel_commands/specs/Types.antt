-- The types that entries of TYPES name (own).
use Rattle.std.specs.Prelude.{ℕ, false, if◌then◌else◌, List, [], ◌∷◌, Option, Some, None, Result, Ok, Err, codes}
use Rattle.std.specs.Prelude.{bytes_eq}
use Rattle.std.specs.Option.{option_map}
use Rattle.std.specs.Str.{is_utf8}
use Rattle.aidl_schema.specs.declared.schema.AidlType.{AidlType}
use Rattle.aidl_schema.specs.declared.schema.Base.{Base}
use Rattle.aidl_schema.specs.declared.schema.Base.TheVariants as base
use Rattle.aidl_schema.specs.declared.schema.Decl.{Decl}
use Rattle.aidl_schema.specs.declared.schema.Shape.{Shape}
use Rattle.aidl_schema.specs.declared.schema.Shape.TheVariants as shape
use Rattle.aidl_schema.specs.Find.{number_of_name}
use Rattle.aidl_schema.specs.Types.{is_type}
use Rattle.tool_words.specs.declared.entry.Form.{Form}
use Rattle.tool_words.specs.declared.entry.Form.TheVariants as form
use Rattle.tool_words.specs.Entries.{Entry, entry_of}

-- the shape of an entry's form
abbrev pub shape_of : Form → Shape
shape_of form.One = shape.One
shape_of form.Array = shape.Array
shape_of form.List = shape.List

-- the declaration of this canonical name; bytes that are no text name none
abbrev pub named_base : List Decl → List ℕ → Option Base
named_base S name = if is_utf8 name then option_map (λ n. base.Named n) (number_of_name S name) else None

-- the base that a name names: a built-in one, or a declaration of the tree
abbrev pub base_of : List Decl → List ℕ → Option Base
base_of S name =
    if bytes_eq name (codes "boolean") then Some base.Boolean
    else if bytes_eq name (codes "byte") then Some base.Byte
    else if bytes_eq name (codes "char") then Some base.Char
    else if bytes_eq name (codes "int") then Some base.Int
    else if bytes_eq name (codes "long") then Some base.Long
    else if bytes_eq name (codes "String") then Some base.Text
    else named_base S name

-- the type of a base, where E14 and E16 refuse none
abbrev pub known_type : List Decl → AidlType → Option AidlType
known_type S ty = if is_type S ty then Some ty else None

abbrev pub entry_type : List Decl → Entry → Option Base → Option AidlType
entry_type S entry None = None
entry_type S entry (Some b) = known_type S
    (record { base = b; shape = shape_of entry.form; nullable = entry.nullable; heap = false; utf8 = false })

-- the type that an entry names
abbrev pub type_of : List Decl → List ℕ → Option AidlType
type_of S text = entry_type S (entry_of text) (base_of S (entry_of text).name)

abbrev pub onto_types : AidlType → Result (List AidlType) (List ℕ) → Result (List AidlType) (List ℕ)
onto_types ty (Ok types) = Ok (ty ∷ types)
onto_types ty (Err entry) = Err entry

-- the type of an entry in front of those of the others, or the entry itself where it names none
abbrev pub named : List ℕ → Option AidlType → Result (List AidlType) (List ℕ) → Result (List AidlType) (List ℕ)
named entry None others = Err entry
named entry (Some ty) others = onto_types ty others

-- the types of entries, or the first entry that names none
abbrev pub types_of : List Decl → List (List ℕ) → Result (List AidlType) (List ℕ)
types_of S [] = Ok []
types_of S (entry ∷ entries) = named entry (type_of S entry) (types_of S entries)
