-- What a valid schema gives of the fields of its declarations (`law_sound`).
use Rattle.std.specs.Prelude.{◌≡◌, ℕ, ◌≤◌, true, List, [], ◌∷◌, length, Some, slice_get}
use Rattle.aidl_schema.specs.declared.schema.Decl.{Decl}
use Rattle.aidl_schema.specs.declared.schema.Field.{Field}
pub use Rattle.aidl_schema.specs.Containment.{fields_of}
use Rattle.aidl_schema.specs.declared.schema.Base.{Base}
use Rattle.aidl_schema.specs.Types.{form_of, is_type}
use Rattle.aidl_schema.specs.Types as form
use Rattle.aidl_values.specs.Data.{Data}
use Rattle.aidl_values.specs.Default.{IsInitial, initial_by, zero_within}
use Rattle.aidl_values.specs.HasType.{HasType}

-- the declaration stands in the schema
abbrev pub IsDeclared : List Decl → Decl → Type 0
IsDeclared S d = (n : ℕ) × (slice_get S n ≡ Some d)

-- the field is one of a declaration of the schema
abbrev pub IsFieldOf : List Decl → Field → Type 0
IsFieldOf S f = (d : Decl) × IsDeclared S d × (k : ℕ) × (slice_get (fields_of d.kind) k ≡ Some f)

-- the field is one of the parcelable that the base names
abbrev pub IsPartOf : List Decl → Base → Field → Type 0
IsPartOf S b f = (fs : List Field) × (form_of S b ≡ form.parcelable fs) × (k : ℕ) × (slice_get fs k ≡ Some f)

-- each field's type is one of the schema
abbrev pub AreTypes : List Decl → List Field → Type 0
AreTypes S [] = Unit {0}
AreTypes S (f ∷ fs) = (is_type S f.ty ≡ true) × AreTypes S fs

-- a field's default, as a function: a default nests at most 32 levels
abbrev pub initial_in : List Decl → Field → Data
initial_in S f = initial_by (λ t. zero_within 33 S t) f

-- the field's default is there, and has the field's type
abbrev pub HasDefault : List Decl → Field → Type 0
HasDefault S f = IsInitial S f (initial_in S f) × HasType S f.ty (initial_in S f)

-- each field's default is there
abbrev pub HaveDefaults : List Decl → List Field → Type 0
HaveDefaults S [] = Unit {0}
HaveDefaults S (f ∷ fs) = HasDefault S f × HaveDefaults S fs

-- Each field has a type of the schema and a default of that type, and its position is one that a tag can say.
pub record IsSound (S : List Decl) : Type 0 where
  pub types : (d : Decl) → IsDeclared S d → AreTypes S (fields_of d.kind)
  pub defaults : (d : Decl) → IsDeclared S d → HaveDefaults S (fields_of d.kind)
  pub few : (d : Decl) → IsDeclared S d → length (fields_of d.kind) ≤ 4096
