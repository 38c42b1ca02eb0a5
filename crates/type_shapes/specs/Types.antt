-- What a type is, by what names mean, and which value is wanted of a constant of it (AOSP, "AIDL language",
-- "Types"; E16 is own).
use Rattle.std.specs.Prelude.{ℕ, Bool, true, false, if◌then◌else◌, List, Option, Some, None}
use Rattle.std.specs.List.{slice_get}
use Rattle.aidl_syntax.specs.declared.tree.DottedTree.{DottedTree}
use Rattle.aidl_syntax.specs.declared.tree.TypeTree.{TypeTree}
use Rattle.aidl_syntax.specs.Trees.{Body}
use Rattle.aidl_syntax.specs.Trees.Body.{parcelable, union, enum, interface}
use Rattle.aidl_syntax.specs.Members.{body}
use Rattle.name_resolution.specs.declared.meaning.BuiltinName.{BuiltinName}
use Rattle.name_resolution.specs.declared.meaning.BuiltinName.TheVariants as built_in
use Rattle.name_resolution.specs.declared.meaning.Resolved.{Resolved}
use Rattle.name_resolution.specs.declared.meaning.Resolved.TheVariants.{Builtin, ListWord, Declared}
use Rattle.aidl_syntax.specs.Sources.{Source}
use Rattle.declared_names.specs.Declarations.{Entry, declarations}
use Rattle.name_resolution.specs.Resolution.{resolved}
use Rattle.const_values.specs.declared.wanted.Wanted.{Wanted}
use Rattle.const_values.specs.declared.wanted.Wanted.TheVariants as wanted
use Rattle.type_shapes.specs.declared.shape.Shape.{Shape}
use Rattle.type_shapes.specs.declared.shape.Shape.TheVariants as shape

-- What the names of types mean, in a place.
abbrev pub Meaning : Type 0
Meaning = DottedTree → Option Resolved

-- what they mean in a file, below a declaration
abbrev pub meaning_in : List Source → ℕ → ℕ → Meaning
meaning_in files file scope d = resolved files file scope d.name.0

abbrev pub is_composite_body : Body → Bool
is_composite_body (parcelable ms) = true
is_composite_body (union ms) = true
is_composite_body (enum es) = false
is_composite_body (interface oneway ms) = false

abbrev pub is_composite_number : List Entry → ℕ → Bool
is_composite_number entries number =
    elim (slice_get entries number) [ None ↦ false | Some e ↦ is_composite_body (body e.tree) ]

-- a parcelable or a union
abbrev pub is_composite : List Entry → Resolved → Bool
is_composite entries (Declared number) = is_composite_number entries number
is_composite entries _ = false

-- what may be the element of a `List`: String, a parcelable or a union
abbrev pub is_list_element : List Entry → Resolved → Bool
is_list_element entries (Builtin built_in.Text) = true
is_list_element entries r = is_composite entries r

abbrev pub list_of : List Entry → Option Resolved → Shape
list_of entries None = shape.Refused
list_of entries (Some r) = if is_list_element entries r then shape.List r else shape.Refused

-- a `List` has an element, and no `[]` after it
abbrev pub list_with : List Entry → Meaning → Option DottedTree → Bool → Shape
list_with entries meaning None brackets = shape.Refused
list_with entries meaning (Some element) true = shape.Refused
list_with entries meaning (Some element) false = list_of entries (meaning element)

-- no other name has an element
abbrev pub plain : Resolved → Option DottedTree → Bool → Shape
plain r (Some element) brackets = shape.Refused
plain r None true = shape.Array r
plain r None false = shape.One r

abbrev pub shaped_as : List Entry → Meaning → TypeTree → Option Resolved → Shape
shaped_as entries meaning t None = shape.Refused
shaped_as entries meaning t (Some ListWord) = list_with entries meaning t.element t.array
shaped_as entries meaning t (Some r) = plain r t.element t.array

-- what a type is
abbrev pub shaped : List Entry → Meaning → TypeTree → Shape
shaped entries meaning t = shaped_as entries meaning t (meaning t.name)

abbrev pub wanted_of_builtin : BuiltinName → Wanted
wanted_of_builtin built_in.Boolean = wanted.Boolean
wanted_of_builtin built_in.Byte = wanted.Byte
wanted_of_builtin built_in.Char = wanted.Character
wanted_of_builtin built_in.Int = wanted.Int
wanted_of_builtin built_in.Long = wanted.Long
wanted_of_builtin built_in.Text = wanted.Text

abbrev pub is_enum_body : Body → Bool
is_enum_body (enum es) = true
is_enum_body _ = false

-- the declaration with that number is an enum
abbrev pub is_enum : List Entry → ℕ → Bool
is_enum entries number = elim (slice_get entries number) [ None ↦ false | Some e ↦ is_enum_body (body e.tree) ]

abbrev pub wanted_of_number : List Entry → ℕ → Wanted
wanted_of_number entries number = if is_enum entries number then wanted.Enum number else wanted.Nothing

-- the value that is wanted for a base; a parcelable, a union and an interface take none
abbrev pub wanted_of : List Entry → Resolved → Wanted
wanted_of entries (Builtin b) = wanted_of_builtin b
wanted_of entries (Declared number) = wanted_of_number entries number
wanted_of entries _ = wanted.Nothing

-- the value that is wanted of one expression for a type: a sequence, and a type that E16 refuses, takes none
abbrev pub wanted_one : List Entry → Shape → Wanted
wanted_one entries (shape.One r) = wanted_of entries r
wanted_one entries _ = wanted.Nothing

-- the value that is wanted of an element of a sequence
abbrev pub wanted_element : List Entry → Shape → Wanted
wanted_element entries (shape.Array r) = wanted_of entries r
wanted_element entries (shape.List r) = wanted_of entries r
wanted_element entries _ = wanted.Nothing

-- what a type is, below a declaration
abbrev pub shape_in : List Source → ℕ → ℕ → TypeTree → Shape
shape_in files file scope ty = shaped (declarations files) (meaning_in files file scope) ty
