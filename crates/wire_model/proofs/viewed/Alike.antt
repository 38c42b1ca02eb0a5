-- What types that are the same in two schemas have in common.
use Rattle.std.proofs.Common.{◌≡◌, ℤ, Bool, true, false, ◌==◌, ◌&&◌, List, refl, sym, ap, ◌∙◌}
use Rattle.aidl_base.proofs.lemmas.Tests.{both}
use Rattle.aidl_schema.proofs.lemmas.Sames.{same_bool_refl}
use Rattle.aidl_schema.specs.Constants.{in_range}
use Rattle.aidl_schema.specs.declared.schema.Decl.{Decl}
use Rattle.aidl_schema.specs.declared.schema.Field.{Field}
use Rattle.aidl_schema.specs.declared.schema.AidlType.{AidlType}
use Rattle.aidl_schema.specs.declared.schema.Shape.{Shape}
use Rattle.aidl_schema.specs.declared.schema.Shape.TheVariants as shape
use Rattle.aidl_schema.specs.Same.{same, same_base, shape_code, same_bool}
use Rattle.aidl_schema.specs.Types.{Form, form_of, is_one, is_raw, is_array, is_byte, is_nullable_form, elem}
use Rattle.aidl_schema.specs.Types as form
use Rattle.wire_model.specs.Spell.{null_word, spell_null}
use Rattle.wire_model.specs.steps.Meets.{FormsMeet}

shapes : (s r : Shape) → (shape_code s == shape_code r) ≡ true → s ≡ r
shapes shape.One shape.One e = refl
shapes shape.One shape.Array e = cc
shapes shape.One shape.List e = cc
shapes shape.Array shape.One e = cc
shapes shape.Array shape.Array e = refl
shapes shape.Array shape.List e = cc
shapes shape.List shape.One e = cc
shapes shape.List shape.Array e = cc
shapes shape.List shape.List e = refl

bools : (a b : Bool) → same_bool a b ≡ true → a ≡ b
bools true b e = sym e
bools false true e = cc
bools false false e = refl

-- a property of forms that is the same of all parcelables and of all unions
module _ {X : Type 0} (F : Form → X) (A B : List Decl) (on_parcelable : (fs gs : List Field) → F (form.parcelable fs) ≡ F (form.parcelable gs))
    (on_union : (fs gs : List Field) → F (form.union fs) ≡ F (form.union gs)) where
  pub property : (f g : Form) → FormsMeet A f B g → F f ≡ F g
  property form.truth g h = ap F (sym h)
  property form.byte g h = ap F (sym h)
  property form.char g h = ap F (sym h)
  property form.int g h = ap F (sym h)
  property form.long g h = ap F (sym h)
  property form.text g h = ap F (sym h)
  property (form.parcelable fs) g h = on_parcelable fs h.0 ∙ ap F (sym h.1)
  property (form.union fs) g h = on_union fs h.0 ∙ ap F (sym h.1)
  property form.nothing g h = ap F (sym h)

-- what has numbers means the same to both
pub number_form : (A B : List Decl) (f g : Form) (n : ℤ) → in_range f n ≡ true → FormsMeet A f B g → g ≡ f
number_form A B form.byte g n h m = m
number_form A B form.char g n h m = m
number_form A B form.int g n h m = m
number_form A B form.long g n h m = m
number_form A B form.truth g n h m = m
number_form A B form.text g n h m = m
number_form A B (form.parcelable fs) g n h m = cc
number_form A B (form.union fs) g n h m = cc
number_form A B form.nothing g n h m = m

module _ (A B : List Decl) (t u : AidlType) (is : same A t B u ≡ true) where
  bases : same_base A t.base B u.base ≡ true
  bases = (both (same_base A t.base B u.base) ((shape_code t.shape == shape_code u.shape) && same_bool t.nullable u.nullable) is).0

  flags : ((shape_code t.shape == shape_code u.shape) && same_bool t.nullable u.nullable) ≡ true
  flags = (both (same_base A t.base B u.base) ((shape_code t.shape == shape_code u.shape) && same_bool t.nullable u.nullable) is).1

  pub shape_is : t.shape ≡ u.shape
  shape_is = shapes t.shape u.shape (both (shape_code t.shape == shape_code u.shape) (same_bool t.nullable u.nullable) flags).0

  pub nullable_is : t.nullable ≡ u.nullable
  nullable_is = bools t.nullable u.nullable (both (shape_code t.shape == shape_code u.shape) (same_bool t.nullable u.nullable) flags).1

  pub one_is : is_one t.shape ≡ is_one u.shape
  one_is = ap is_one shape_is

  module _ (meet : FormsMeet A (form_of A t.base) B (form_of B u.base)) where
    pub raw_is : is_raw A t ≡ is_raw B u
    raw_is =
        let byte : is_byte (form_of A t.base) ≡ is_byte (form_of B u.base) = property is_byte A B (λ fs gs. refl) (λ fs gs. refl) (form_of A t.base) (form_of B u.base) meet in
        rw (shape_is, byte) refl

    pub null_is : spell_null A t ≡ spell_null B u
    null_is =
        let null : null_word (form_of A t.base) ≡ null_word (form_of B u.base) = property null_word A B (λ fs gs. refl) (λ fs gs. refl) (form_of A t.base) (form_of B u.base) meet in
        rw (one_is, null) refl

    pub elem_is : same A (elem A t) B (elem B u) ≡ true
    elem_is =
        let may : is_nullable_form (form_of A t.base) ≡ is_nullable_form (form_of B u.base) =
        property is_nullable_form A B (λ fs gs. refl) (λ fs gs. refl) (form_of A t.base) (form_of B u.base) meet in
        rw (bases, nullable_is, may) (same_bool_refl (u.nullable && is_nullable_form (form_of B u.base)))
