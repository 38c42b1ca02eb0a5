-- Where the member of a name stands, and the tables that tell it.
use Rattle.std.specs.Prelude.{◌≡◌, ℕ, List, Option, IfSome}
use Rattle.aidl_schema.specs.declared.schema.Base.{Base}
use Rattle.aidl_schema.specs.declared.schema.Decl.{Decl}
use Rattle.aidl_schema.specs.declared.schema.Enumerator.{Enumerator}
use Rattle.aidl_schema.specs.declared.schema.Field.{Field}
use Rattle.aidl_schema.specs.Types.{form_of}
use Rattle.json_writing.specs.Named.{enumerators_of, fields_in}
use Rattle.name_tables.specs.Places.{place_in}
use Rattle.json_values.specs.declared.member_tables.MemberTables.{MemberTables}

-- the first field of a name
abbrev pub field_place : List ℕ → List Field → Option ℕ
field_place name fs = place_in (λ (f : Field). f.name) name fs

-- the first enumerator of a name
abbrev pub enumerator_place : List ℕ → List Enumerator → Option ℕ
enumerator_place name es = place_in (λ (e : Enumerator). e.name) name es

-- tables of the fields, and of the enumerators, that a base has
abbrev pub AreTables : List Decl → Base → MemberTables → Type 0
AreTables S b t = (t.fields ≡ fields_in (form_of S b)) × IfSome (enumerators_of S b) (λ es. t.enumerators ≡ es)
