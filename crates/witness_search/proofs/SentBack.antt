-- What can be sent back is a type of both schemas.
use Rattle.std.proofs.Common.{◌≡◌, ◌==◌, Bool, true, false, not, ◌&&◌, List, refl, sym, ◌∙◌, arith}
use Rattle.std.specs.Prelude.{if◌then◌else◌}
use Rattle.std.proofs.lemmas.Bool.Decides.{nat_tests}
use Rattle.aidl_schema.specs.declared.schema.AidlType.{AidlType}
use Rattle.aidl_schema.specs.declared.schema.Arg.{Arg}
use Rattle.aidl_schema.specs.declared.schema.Base.{Base}
use Rattle.aidl_schema.specs.declared.schema.Base.TheVariants as base
use Rattle.aidl_schema.specs.declared.schema.Decl.{Decl}
use Rattle.aidl_schema.specs.declared.schema.Shape.{Shape}
use Rattle.aidl_schema.specs.declared.schema.Shape.TheVariants as shape
use Rattle.aidl_schema.specs.Same.{base_code, is_named, same, same_base, same_bool, same_decl, decl_of, shape_code}
use Rattle.aidl_schema.specs.Types.{Form, form_of, is_array, is_meant, is_one, is_type, is_well_shaped}
use Rattle.aidl_schema.specs.Types as form
use Rattle.compat_witness.specs.Reaching.{is_parcelable}
use Rattle.compat_witness.specs.Places.{Spot}
use Rattle.compat_witness.specs.Rows.{is_met_C7, is_sent_back}

both : (a b : Bool) → (a && b) ≡ true → (a ≡ true) × (b ≡ true)
both true b e = (refl, e)
both false b e = absurd cc

-- a built-in base means something
built_in : (S : List Decl) (b : Base) → is_named b ≡ false → is_meant (form_of S b) ≡ true
built_in S base.Boolean e = refl
built_in S base.Byte e = refl
built_in S base.Char e = refl
built_in S base.Int e = refl
built_in S base.Long e = refl
built_in S base.Text e = refl
built_in S (base.Named n) e = absurd cc

-- a parcelable does
parcelable_meant : (f : Form) → is_parcelable f ≡ true → is_meant f ≡ true
parcelable_meant (form.parcelable fs) e = refl
parcelable_meant (form.union fs) e = absurd cc
parcelable_meant form.truth e = absurd cc
parcelable_meant form.text e = absurd cc
parcelable_meant form.byte e = absurd cc
parcelable_meant form.char e = absurd cc
parcelable_meant form.int e = absurd cc
parcelable_meant form.long e = absurd cc
parcelable_meant form.nothing e = absurd cc

-- the shape and the flag of a type, and those of the other one
by_shape : (S : List Decl) (s : Shape) (n : Bool) (b : Base) → n ≡ false → is_one s ≡ true → is_meant (form_of S b) ≡ true → (is_meant (form_of S b) && is_well_shaped s n (form_of S b)) ≡ true
by_shape S shape.One n b flag one meant = rw (meant, flag) refl
by_shape S shape.Array n b flag one meant = absurd cc
by_shape S shape.List n b flag one meant = absurd cc

by_array : (S : List Decl) (s : Shape) (n : Bool) (b : Base) → is_array s ≡ true → is_meant (form_of S b) ≡ true → (is_meant (form_of S b) && is_well_shaped s n (form_of S b)) ≡ true
by_array S shape.One n b array meant = absurd cc
by_array S shape.Array n b array meant = rw meant refl
by_array S shape.List n b array meant = absurd cc

same_one : (s z : Shape) → (shape_code s == shape_code z) ≡ true → is_one s ≡ is_one z
same_one shape.One shape.One e = refl
same_one shape.One shape.Array e = absurd cc
same_one shape.One shape.List e = absurd cc
same_one shape.Array shape.One e = absurd cc
same_one shape.Array shape.Array e = refl
same_one shape.Array shape.List e = refl
same_one shape.List shape.One e = absurd cc
same_one shape.List shape.Array e = refl
same_one shape.List shape.List e = refl

same_array : (s z : Shape) → (shape_code s == shape_code z) ≡ true → is_array s ≡ is_array z
same_array shape.One shape.One e = refl
same_array shape.One shape.Array e = absurd cc
same_array shape.One shape.List e = refl
same_array shape.Array shape.One e = absurd cc
same_array shape.Array shape.Array e = refl
same_array shape.Array shape.List e = absurd cc
same_array shape.List shape.One e = refl
same_array shape.List shape.Array e = absurd cc
same_array shape.List shape.List e = refl

same_flag : (x y : Bool) → same_bool x y ≡ true → x ≡ y
same_flag true true e = refl
same_flag true false e = absurd cc
same_flag false true e = absurd cc
same_flag false false e = refl

no_negation : (x : Bool) → not x ≡ true → x ≡ false
no_negation true e = absurd cc
no_negation false e = refl

named_alike : (b c : Base) → (base_code b == base_code c) ≡ true → is_named b ≡ false → is_named c ≡ false
named_alike b c e n = grind (arith, nat_tests)

module _ (old : List Decl) (t : AidlType) (new : List Decl) (u : AidlType) (alike : same old t new u ≡ true) (sent : is_sent_back old t new u ≡ true) where
  base_alike : same_base old t.base new u.base ≡ true
  base_alike = (both (same_base old t.base new u.base) ((shape_code t.shape == shape_code u.shape) && same_bool t.nullable u.nullable) alike).0

  code_alike : (base_code t.base == base_code u.base) ≡ true
  code_alike = (both (base_code t.base == base_code u.base) (if is_named t.base then same_decl (decl_of old t.base) (decl_of new u.base) else true) base_alike).0

  rest_alike : ((shape_code t.shape == shape_code u.shape) ≡ true) × (same_bool t.nullable u.nullable ≡ true)
  rest_alike = both (shape_code t.shape == shape_code u.shape) (same_bool t.nullable u.nullable)
      (both (same_base old t.base new u.base) ((shape_code t.shape == shape_code u.shape) && same_bool t.nullable u.nullable) alike).1

  parts : (not t.nullable ≡ true) × ((if is_one t.shape then is_parcelable (form_of old t.base) && is_parcelable (form_of new u.base) else is_array t.shape && not (is_named t.base)) ≡ true)
  parts = both (not t.nullable) (if is_one t.shape then is_parcelable (form_of old t.base) && is_parcelable (form_of new u.base) else is_array t.shape && not (is_named t.base)) sent

  never_null : t.nullable ≡ false
  never_null = no_negation t.nullable parts.0

  other_never_null : u.nullable ≡ false
  other_never_null = sym (same_flag t.nullable u.nullable rest_alike.1) ∙ never_null

  types : (is_type old t ≡ true) × (is_type new u ≡ true)
  types = by (is_one t.shape) refl parts.1
    where
      by : (one : Bool) → is_one t.shape ≡ one → (if one then is_parcelable (form_of old t.base) && is_parcelable (form_of new u.base) else is_array t.shape && not (is_named t.base)) ≡ true
          → (is_type old t ≡ true) × (is_type new u ≡ true)
      by true is e =
          let p = both (is_parcelable (form_of old t.base)) (is_parcelable (form_of new u.base)) e in (
            by_shape old t.shape t.nullable t.base never_null is (parcelable_meant (form_of old t.base) p.0),
            by_shape new u.shape u.nullable u.base other_never_null (sym (same_one t.shape u.shape rest_alike.0) ∙ is) (parcelable_meant (form_of new u.base) p.1),
          )
      by false is e =
          let p = both (is_array t.shape) (not (is_named t.base)) e in
          let free = no_negation (is_named t.base) p.1 in (
            by_array old t.shape t.nullable t.base p.0 (built_in old t.base free),
            by_array new u.shape u.nullable u.base (sym (same_array t.shape u.shape rest_alike.0) ∙ p.0) (built_in new u.base (named_alike t.base u.base code_alike free)),
          )

-- where the condition of C7 is met
met : (old new : List Decl) (s w : Spot) (a b : Arg) → is_met_C7 old new s w a b ≡ true → (is_type old a.ty ≡ true) × (is_type new b.ty ≡ true)
met old new s w a b e =
    let one = both (same old a.ty new b.ty && is_sent_back old a.ty new b.ty) _ e in
    let two = both (same old a.ty new b.ty) (is_sent_back old a.ty new b.ty) one.0 in
    types old a.ty new b.ty two.0 two.1

pub old_type : (old new : List Decl) (s w : Spot) (a b : Arg) → is_met_C7 old new s w a b ≡ true → is_type old a.ty ≡ true
old_type old new s w a b e = (met old new s w a b e).0

pub new_type : (old new : List Decl) (s w : Spot) (a b : Arg) → is_met_C7 old new s w a b ≡ true → is_type new b.ty ≡ true
new_type old new s w a b e = (met old new s w a b e).1
