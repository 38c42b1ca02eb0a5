-- What the tables of the declarations' fields are over.
use Rattle.std.specs.Prelude.{List, [], Option, Some, None, map}
use Rattle.aidl_schema.specs.declared.schema.Decl.{Decl}
use Rattle.aidl_schema.specs.declared.schema.Field.{Field}
use Rattle.aidl_schema.specs.Containment.{fields_of}

-- the fields of each declaration
abbrev pub field_lists : List Decl → List (List Field)
field_lists S = map (λ (d : Decl). fields_of d.kind) S

-- the fields that are found, and none where nothing is
abbrev pub fields_or_none : Option (List Field) → List Field
fields_or_none None = []
fields_or_none (Some fs) = fs
