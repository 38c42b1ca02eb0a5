-- An element's type is one of the schema.
use Rattle.std.proofs.Common.{◌≡◌, Bool, true, false, List, refl}
use Rattle.aidl_schema.specs.declared.schema.Decl.{Decl}
use Rattle.aidl_schema.specs.declared.schema.Shape.TheVariants as shape
use Rattle.aidl_schema.specs.declared.schema.AidlType.{AidlType}
use Rattle.aidl_schema.specs.Types.{Form, form_of, is_meant, is_nullable_form, is_type, is_well_shaped, elem}
use Rattle.aidl_base.proofs.lemmas.Tests.{both}
use Rattle.std.specs.Prelude.{◌&&◌}

well_shaped : (f : Form) (nullable may : Bool) → is_nullable_form f ≡ may → is_well_shaped shape.One (nullable && is_nullable_form f) f ≡ true
well_shaped f false may e = refl
well_shaped f true true e = rw e refl
well_shaped f true false e = rw e refl

pub elem_is_type : (S : List Decl) (t : AidlType) → is_type S t ≡ true → is_type S (elem S t) ≡ true
elem_is_type S t h =
    let meant = (both (is_meant (form_of S t.base)) (is_well_shaped t.shape t.nullable (form_of S t.base)) h).0 in
    rw (meant, well_shaped (form_of S t.base) t.nullable (is_nullable_form (form_of S t.base)) refl) refl
