-- *HasType*: which values a type has (AIDL language, "Types"; the rest own).
use Rattle.std.specs.Prelude.{◌≡◌, List, [], ◌∷◌, Some, slice_get, IsTrue, false}
use Rattle.std.specs.Str.{all_scalars}
use Rattle.aidl_schema.specs.declared.schema.Decl.{Decl}
use Rattle.aidl_schema.specs.declared.schema.Field.{Field}
use Rattle.aidl_schema.specs.declared.schema.AidlType.{AidlType}
use Rattle.aidl_schema.specs.Constants.{in_range}
use Rattle.aidl_schema.specs.Types.{form_of, is_one, elem}
use Rattle.aidl_schema.specs.Types as form
use Rattle.aidl_values.specs.Data.{Data, null, truth, number, text, seq, rec, alt, Items, none, item}

abbrev mutual
  -- A null needs a nullable type, a sequence an array or `List`; every other value needs a single type of its kind;
  -- a number one of its range.
  pub HasType : List Decl → AidlType → Data → Type 0
  HasType S t null = IsTrue t.nullable
  HasType S t (truth b) = IsTrue (is_one t.shape) × (form_of S t.base ≡ form.truth)
  HasType S t (number n) = IsTrue (is_one t.shape) × IsTrue (in_range (form_of S t.base) n)
  HasType S t (text x) = IsTrue (is_one t.shape) × (form_of S t.base ≡ form.text) × IsTrue (all_scalars x)
  HasType S t (seq vs) = (is_one t.shape ≡ false) × HaveType S (elem S t) vs
  HasType S t (rec vs) = IsTrue (is_one t.shape) × (fs : List Field) × (form_of S t.base ≡ form.parcelable fs)
      × FieldsHaveType S fs vs
  HasType S t (alt k v) = IsTrue (is_one t.shape) × (fs : List Field) × (form_of S t.base ≡ form.union fs)
      × (f : Field) × (slice_get fs k ≡ Some f) × HasType S f.ty v

  -- each item has the type
  pub HaveType : List Decl → AidlType → Items → Type 0
  HaveType S t none = Unit {0}
  HaveType S t (item v vs) = HasType S t v × HaveType S t vs

  -- one value for each field, of its type
  pub FieldsHaveType : List Decl → List Field → Items → Type 0
  FieldsHaveType S [] none = Unit {0}
  FieldsHaveType S [] (item v vs) = ⊥
  FieldsHaveType S (f ∷ fs) none = ⊥
  FieldsHaveType S (f ∷ fs) (item v vs) = HasType S f.ty v × FieldsHaveType S fs vs
