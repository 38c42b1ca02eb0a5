-- *HasType* as a test, which decides the relation (proofs/TypeTests.antt).
use Rattle.std.specs.Prelude.{Bool, true, false, not, ◌&&◌, List, [], ◌∷◌, Option, Some, None, slice_get}
use Rattle.std.specs.Str.{all_scalars}
use Rattle.aidl_schema.specs.declared.schema.Decl.{Decl}
use Rattle.aidl_schema.specs.declared.schema.Field.{Field}
use Rattle.aidl_schema.specs.declared.schema.AidlType.{AidlType}
use Rattle.aidl_schema.specs.Types.{Form, form_of, is_one, elem}
use Rattle.aidl_schema.specs.Types as form
use Rattle.aidl_schema.specs.Constants.{in_range}
use Rattle.aidl_values.specs.Data.{Data, null, truth, number, text, seq, rec, alt, Items, none, item}

-- boolean
abbrev pub is_truth_form : Form → Bool
is_truth_form form.truth = true
is_truth_form _ = false

-- String
abbrev pub is_text_form : Form → Bool
is_text_form form.text = true
is_text_form _ = false

-- the test of a parcelable's fields; false of what is no parcelable
abbrev pub of_parcelable : Form → (List Field → Bool) → Bool
of_parcelable (form.parcelable fs) test = test fs
of_parcelable _ test = false

-- the test of a union's fields; false of what is no union
abbrev pub of_union : Form → (List Field → Bool) → Bool
of_union (form.union fs) test = test fs
of_union _ test = false

-- the test of a field's type; false where there is no field
abbrev pub of_field : Option Field → (AidlType → Bool) → Bool
of_field None test = false
of_field (Some f) test = test f.ty

abbrev mutual
  -- the value has the type
  pub has_type_of : List Decl → AidlType → Data → Bool
  has_type_of S t null = t.nullable
  has_type_of S t (truth b) = is_one t.shape && is_truth_form (form_of S t.base)
  has_type_of S t (number n) = is_one t.shape && in_range (form_of S t.base) n
  has_type_of S t (text x) = is_one t.shape && is_text_form (form_of S t.base) && all_scalars x
  has_type_of S t (seq vs) = not (is_one t.shape) && all_have_type S (elem S t) vs
  has_type_of S t (rec vs) = is_one t.shape && of_parcelable (form_of S t.base) (λ fs. fields_have_type S fs vs)
  has_type_of S t (alt k v) =
      is_one t.shape && of_union (form_of S t.base) (λ fs. of_field (slice_get fs k) (λ u. has_type_of S u v))

  -- each item has the type
  pub all_have_type : List Decl → AidlType → Items → Bool
  all_have_type S t none = true
  all_have_type S t (item v vs) = has_type_of S t v && all_have_type S t vs

  -- one value for each field, of its type
  pub fields_have_type : List Decl → List Field → Items → Bool
  fields_have_type S [] none = true
  fields_have_type S [] (item v vs) = false
  fields_have_type S (f ∷ fs) none = false
  fields_have_type S (f ∷ fs) (item v vs) = has_type_of S f.ty v && fields_have_type S fs vs
