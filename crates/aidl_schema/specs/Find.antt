-- Looking up declarations by their names, their members by their numbers, and methods by their transaction codes (own).
use Rattle.std.specs.Prelude.{ℕ, Bool, true, false, ◌+◌, ◌==◌, if◌then◌else◌, List, [], Option, Some, None}
use Rattle.std.specs.Prelude.{option_and_then, slice_get}
use Rattle.std.specs.List.{position}
use Rattle.std.specs.Str.{encode_utf8_all}
use Rattle.aidl_schema.specs.declared.schema.Decl.{Decl}
use Rattle.aidl_schema.specs.declared.schema.Field.{Field}
use Rattle.aidl_schema.specs.declared.schema.Kind.{Kind}
use Rattle.aidl_schema.specs.declared.schema.Kind.TheVariants.{Interface}
use Rattle.aidl_schema.specs.declared.schema.Method.{Method}
use Rattle.aidl_schema.specs.Containment.{fields_of}
use Rattle.aidl_schema.specs.Names.{methods_of, name_of}
use Rattle.aidl_schema.specs.Same.{same_text}

-- the number of the declaration of this canonical name, which is in UTF-8
abbrev pub number_of_name : List Decl → List ℕ → Option ℕ
number_of_name S name = position (λ d. same_text (encode_utf8_all (name_of d)) name) S

abbrev pub is_interface_kind : Kind → Bool
is_interface_kind (Interface ms) = true
is_interface_kind _ = false

abbrev pub is_interface : List Decl → ℕ → Bool
is_interface S n = elim (slice_get S n) [ None ↦ false | Some d ↦ is_interface_kind d.kind ]

-- the number of the interface of this canonical name
abbrev pub interface_named : List Decl → List ℕ → Option ℕ
interface_named S name = option_and_then (λ n. if is_interface S n then Some n else None) (number_of_name S name)

-- the methods of the interface that a declaration is; none of what is no interface
abbrev pub methods_of_decl : Option Decl → List Method
methods_of_decl None = []
methods_of_decl (Some d) = methods_of d.kind

-- the methods of the interface of this number
abbrev pub methods_at : List Decl → ℕ → List Method
methods_at S n = methods_of_decl (slice_get S n)

-- the fields of the parcelable or union that a declaration is; none of what is neither
abbrev pub fields_of_decl : Option Decl → List Field
fields_of_decl None = []
fields_of_decl (Some d) = fields_of d.kind

-- the fields of the parcelable or union of this number
abbrev pub fields_at : List Decl → ℕ → List Field
fields_at S n = fields_of_decl (slice_get S n)

-- the position of the method whose transaction code, which is 1 plus its id, is this one
abbrev pub position_of_code : List Method → ℕ → Option ℕ
position_of_code ms code = position (λ m. m.id + 1 == code) ms
