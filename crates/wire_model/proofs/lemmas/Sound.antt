-- What holds of each declaration holds of what a base means.
use Rattle.std.proofs.Common.{◌≡◌, ℕ, zero, suc, true, ◌≤◌, List, [], ◌∷◌, length, Option, Some, None, slice_get, refl, ap, subst}
use Rattle.aidl_schema.specs.declared.schema.Decl.{Decl}
use Rattle.aidl_schema.specs.declared.schema.Field.{Field}
use Rattle.aidl_schema.specs.declared.schema.Kind.{Kind}
use Rattle.aidl_schema.specs.declared.schema.Kind.TheVariants.{Interface, Parcelable, Union, Enum}
use Rattle.aidl_schema.specs.declared.schema.Backing.TheVariants as backing
use Rattle.aidl_schema.specs.declared.schema.Base.{Base}
use Rattle.aidl_schema.specs.declared.schema.Base.TheVariants as base
use Rattle.aidl_schema.specs.Types.{Form, form_of, form_of_decl, form_of_kind, is_type}
use Rattle.aidl_schema.specs.Types as form
use Rattle.aidl_values.specs.Sound.{IsDeclared, fields_of, AreTypes, HaveDefaults, IsSound}
use Rattle.wire_model.specs.Spell.{parcelable_fields, union_fields}

parcelable_kind : (k : Kind) (fs : List Field) → form_of_kind k ≡ form.parcelable fs → fields_of k ≡ fs
parcelable_kind (Parcelable gs) fs e = ap parcelable_fields e
parcelable_kind (Interface ms) fs e = absurd cc
parcelable_kind (Union gs) fs e = absurd cc
parcelable_kind (Enum backing.Byte es) fs e = absurd cc
parcelable_kind (Enum backing.Int es) fs e = absurd cc
parcelable_kind (Enum backing.Long es) fs e = absurd cc

union_kind : (k : Kind) (fs : List Field) → form_of_kind k ≡ form.union fs → fields_of k ≡ fs
union_kind (Union gs) fs e = ap union_fields e
union_kind (Interface ms) fs e = absurd cc
union_kind (Parcelable gs) fs e = absurd cc
union_kind (Enum backing.Byte es) fs e = absurd cc
union_kind (Enum backing.Int es) fs e = absurd cc
union_kind (Enum backing.Long es) fs e = absurd cc

module _ (S : List Decl) (P : List Field → Type 0) (all : (d : Decl) → IsDeclared S d → P (fields_of d.kind)) where
  parcelable_decl : (n : ℕ) (o : Option Decl) (fs : List Field) → slice_get S n ≡ o → form_of_decl o ≡ form.parcelable fs → P fs
  parcelable_decl n None fs at e = absurd cc
  parcelable_decl n (Some d) fs at e = subst P (parcelable_kind d.kind fs e) (all d (n, at))

  union_decl : (n : ℕ) (o : Option Decl) (fs : List Field) → slice_get S n ≡ o → form_of_decl o ≡ form.union fs → P fs
  union_decl n None fs at e = absurd cc
  union_decl n (Some d) fs at e = subst P (union_kind d.kind fs e) (all d (n, at))

  pub of_parcelable : (b : Base) (fs : List Field) → form_of S b ≡ form.parcelable fs → P fs
  of_parcelable base.Boolean fs e = absurd cc
  of_parcelable base.Byte fs e = absurd cc
  of_parcelable base.Char fs e = absurd cc
  of_parcelable base.Int fs e = absurd cc
  of_parcelable base.Long fs e = absurd cc
  of_parcelable base.Text fs e = absurd cc
  of_parcelable (base.Named n) fs e = parcelable_decl n (slice_get S n) fs refl e

  pub of_union : (b : Base) (fs : List Field) → form_of S b ≡ form.union fs → P fs
  of_union base.Boolean fs e = absurd cc
  of_union base.Byte fs e = absurd cc
  of_union base.Char fs e = absurd cc
  of_union base.Int fs e = absurd cc
  of_union base.Long fs e = absurd cc
  of_union base.Text fs e = absurd cc
  of_union (base.Named n) fs e = union_decl n (slice_get S n) fs refl e

-- what a sound schema gives of the fields of a base
pub record IsWhole (S : List Decl) : Type 0 where
  pub fields : (b : Base) (fs : List Field) → form_of S b ≡ form.parcelable fs → AreTypes S fs × HaveDefaults S fs
  pub tags : (b : Base) (fs : List Field) → form_of S b ≡ form.union fs → AreTypes S fs × (length fs ≤ 4096)

pub field_type : (S : List Decl) (fs : List Field) (k : ℕ) (f : Field) → AreTypes S fs → slice_get fs k ≡ Some f → is_type S f.ty ≡ true
field_type S [] k f h e = absurd cc
field_type S (g ∷ fs) zero f h e = let is : g ≡ f = cc in subst (λ x. is_type S x.ty ≡ true) is h.0
field_type S (g ∷ fs) (suc k) f h e = field_type S fs k f h.1 e

pub is_whole : (S : List Decl) → IsSound S → IsWhole S
is_whole S sound = record {
  fields = λ b fs e. (of_parcelable S (λ fs. AreTypes S fs) sound.types b fs e, of_parcelable S (λ fs. HaveDefaults S fs) sound.defaults b fs e);
  tags = λ b fs e. (of_union S (λ fs. AreTypes S fs) sound.types b fs e, of_union S (λ fs. length fs ≤ 4096) sound.few b fs e);
}
