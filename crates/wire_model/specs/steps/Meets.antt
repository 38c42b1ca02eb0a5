-- What two schemas have in common where no evolution rule is broken from the one to the other: what is sent by A
-- can be read by B.
use Rattle.std.specs.Prelude.{◌≡◌, ℕ, ◌≤◌, true, false, List, [], ◌∷◌, length}
use Rattle.aidl_schema.specs.declared.schema.Decl.{Decl}
use Rattle.aidl_schema.specs.declared.schema.Field.{Field}
use Rattle.aidl_schema.specs.declared.schema.AidlType.{AidlType}
use Rattle.aidl_schema.specs.Same.{same, same_text}
use Rattle.aidl_schema.specs.Types.{Form, form_of}
use Rattle.aidl_schema.specs.Types as form
use Rattle.aidl_values.specs.Sound.{HaveDefaults}
use Rattle.wire_model.specs.View.{agree}

-- No field of these has the name.
abbrev pub IsAbsent : List ℕ → List Field → Type 0
IsAbsent name [] = Unit {0}
IsAbsent name (f ∷ fs) = (same_text name f.name.0 ≡ false) × IsAbsent name fs

-- The names are distinct.
abbrev pub AreDistinct : List Field → Type 0
AreDistinct [] = Unit {0}
AreDistinct (f ∷ fs) = IsAbsent f.name.0 fs × AreDistinct fs

-- Fields at a position below both counts have one name and the same type.
abbrev pub FieldsAgree : List Decl → List Field → List Decl → List Field → Type 0
FieldsAgree A [] B gs = Unit {0}
FieldsAgree A (f ∷ fs) B [] = Unit {0}
FieldsAgree A (f ∷ fs) B (g ∷ gs) = (f.name.0 ≡ g.name.0) × (same A f.ty B g.ty ≡ true) × FieldsAgree A fs B gs

-- a parcelable's fields, and those of the receiver's
pub record FieldsMeet (A : List Decl) (fs : List Field) (B : List Decl) (gs : List Field) : Type 0 where
  pub common : FieldsAgree A fs B gs
  pub defaults : HaveDefaults B gs
  pub distinct : AreDistinct gs

-- a union's fields, and those of the receiver's
pub record TagsMeet (A : List Decl) (fs : List Field) (B : List Decl) (gs : List Field) : Type 0 where
  pub common : FieldsAgree A fs B gs
  pub distinct : AreDistinct fs
  pub few : length fs ≤ 4096

-- what a base means to the sender, and to the receiver
abbrev pub FormsMeet : List Decl → Form → List Decl → Form → Type 0
FormsMeet A (form.parcelable fs) B g = (gs : List Field) × (g ≡ form.parcelable gs) × FieldsMeet A fs B gs
FormsMeet A (form.union fs) B g = (gs : List Field) × (g ≡ form.union gs) × TagsMeet A fs B gs
FormsMeet A f B g = g ≡ f

-- a type of the sender, and the same type of the receiver
pub record TypesMeet (A : List Decl) (t : AidlType) (B : List Decl) (u : AidlType) : Type 0 where
  pub kinds : agree A t B u ≡ true
  pub forms : FormsMeet A (form_of A t.base) B (form_of B u.base)

-- every type
abbrev pub Meets : List Decl → List Decl → Type 0
Meets A B = (t u : AidlType) → same A t B u ≡ true → TypesMeet A t B u
