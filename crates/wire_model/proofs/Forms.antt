-- What holds of a type by what its base means.
use Rattle.std.proofs.Common.{◌≡◌, Bool, true, false, not, ◌&&◌, ◌||◌, List, refl, sym, true≢false}
use Rattle.aidl_schema.specs.declared.schema.Decl.{Decl}
use Rattle.aidl_schema.specs.declared.schema.AidlType.{AidlType}
use Rattle.aidl_schema.specs.declared.schema.Shape.{Shape}
use Rattle.aidl_schema.specs.declared.schema.Shape.TheVariants as shape
use Rattle.aidl_schema.specs.Types.{Form, form_of, is_one, is_raw, is_array, is_byte, is_type, is_meant, is_well_shaped, is_nullable_form, elem}
use Rattle.aidl_schema.specs.Types as form
use Rattle.aidl_base.proofs.lemmas.Tests.{both}

elem_type : (f : Form) (nullable : Bool) → is_meant f ≡ true → (is_meant f && (not (nullable && is_nullable_form f) || is_nullable_form f)) ≡ true
elem_type form.truth true h = refl
elem_type form.truth false h = refl
elem_type form.byte true h = refl
elem_type form.byte false h = refl
elem_type form.char true h = refl
elem_type form.char false h = refl
elem_type form.int true h = refl
elem_type form.int false h = refl
elem_type form.long true h = refl
elem_type form.long false h = refl
elem_type form.text true h = refl
elem_type form.text false h = refl
elem_type (form.parcelable fs) true h = refl
elem_type (form.parcelable fs) false h = refl
elem_type (form.union fs) true h = refl
elem_type (form.union fs) false h = refl
elem_type form.nothing n h = absurd (true≢false (sym h))

-- an element's type is one of the schema
pub elem_is_type : (S : List Decl) (t : AidlType) → is_type S t ≡ true → is_type S (elem S t) ≡ true
elem_is_type S t type = elem_type (form_of S t.base) t.nullable (both (is_meant (form_of S t.base)) (is_well_shaped t.shape t.nullable (form_of S t.base)) type).0

-- a nullable type of shape one
pub well_one : (sh : Shape) (f : Form) → is_one sh ≡ true → is_well_shaped sh true f ≡ true → is_nullable_form f ≡ true
well_one shape.One f one h = h
well_one shape.Array f one h = absurd (true≢false (sym one))
well_one shape.List f one h = absurd (true≢false (sym one))

byte_form : (f : Form) → is_byte f ≡ true → f ≡ form.byte
byte_form form.byte e = refl
byte_form form.truth e = absurd (true≢false (sym e))
byte_form form.char e = absurd (true≢false (sym e))
byte_form form.int e = absurd (true≢false (sym e))
byte_form form.long e = absurd (true≢false (sym e))
byte_form form.text e = absurd (true≢false (sym e))
byte_form (form.parcelable fs) e = absurd (true≢false (sym e))
byte_form (form.union fs) e = absurd (true≢false (sym e))
byte_form form.nothing e = absurd (true≢false (sym e))

-- raw bytes are those of the form byte
pub raw_form : (S : List Decl) (t : AidlType) → is_raw S t ≡ true → form_of S t.base ≡ form.byte
raw_form S t raw = byte_form (form_of S t.base) (both (is_array t.shape) (is_byte (form_of S t.base)) raw).1
