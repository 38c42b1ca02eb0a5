-- Where the field of a name stands, and what stands there.
use Rattle.std.specs.Prelude.{ℕ, nat_lt, if◌then◌else◌, List, [], Option, Some, None}
use Rattle.std.specs.List.{position}
use Rattle.aidl_schema.specs.declared.schema.Base.{Base}
use Rattle.aidl_schema.specs.declared.schema.Base.TheVariants as base
use Rattle.aidl_schema.specs.declared.schema.Decl.{Decl}
use Rattle.aidl_schema.specs.declared.schema.Field.{Field}
use Rattle.aidl_schema.specs.Find.{fields_at}
use Rattle.aidl_schema.specs.Same.{same_text}

-- the position of the field of this name
abbrev pub place_named : List ℕ → List Field → Option ℕ
place_named name fs = position (λ f. same_text name f.name.0) fs

-- a position, where it is below a count
abbrev pub below : ℕ → Option ℕ → Option ℕ
below n None = None
below n (Some i) = if nat_lt i n then Some i else None

-- the fields of the parcelable or union that a base names, and none of another base
abbrev pub fields_of_base : List Decl → Base → List Field
fields_of_base S (base.Named k) = fields_at S k
fields_of_base S _ = []
