-- What a JSON value calls by name (own): the fields of a parcelable or union, and the enumerators of an enum.
-- JSON's texts are in UTF-8.
use Rattle.std.specs.Prelude.{List, [], Option, Some, None}
use Rattle.aidl_schema.specs.declared.schema.Decl.{Decl}
use Rattle.aidl_schema.specs.declared.schema.Enumerator.{Enumerator}
use Rattle.aidl_schema.specs.declared.schema.Field.{Field}
use Rattle.aidl_schema.specs.declared.schema.Kind.{Kind}
use Rattle.aidl_schema.specs.declared.schema.Kind.TheVariants.{Enum}
use Rattle.aidl_schema.specs.declared.schema.Base.{Base}
pub use Rattle.aidl_schema.specs.Names.{bytes_of}
use Rattle.aidl_schema.specs.Same.{decl_of}
use Rattle.aidl_schema.specs.Types.{Form}
use Rattle.aidl_schema.specs.Types as form

-- of a parcelable or union
abbrev pub fields_in : Form → List Field
fields_in (form.parcelable fs) = fs
fields_in (form.union fs) = fs
fields_in _ = []

-- an enum's enumerators; None for what is no enum
abbrev pub enumerators_of_kind : Kind → Option (List Enumerator)
enumerators_of_kind (Enum b es) = Some es
enumerators_of_kind _ = None

abbrev pub enumerators_of_decl : Option Decl → Option (List Enumerator)
enumerators_of_decl None = None
enumerators_of_decl (Some d) = enumerators_of_kind d.kind

-- the enumerators of the enum that a base is
abbrev pub enumerators_of : List Decl → Base → Option (List Enumerator)
enumerators_of S b = enumerators_of_decl (decl_of S b)
