-- What a valid schema says of each declaration holds of what a base means.
use Rattle.std.proofs.Common.{◌≡◌, ℕ, ◌≤◌, List, [], length, Option, Some, None, slice_get, refl, subst, arith}
use Rattle.aidl_schema.specs.declared.schema.Decl.{Decl}
use Rattle.aidl_schema.specs.declared.schema.Field.{Field}
use Rattle.aidl_schema.specs.declared.schema.Kind.{Kind}
use Rattle.aidl_schema.specs.declared.schema.Kind.TheVariants.{Interface, Parcelable, Union, Enum}
use Rattle.aidl_schema.specs.declared.schema.Backing.TheVariants as backing
use Rattle.aidl_schema.specs.declared.schema.Base.{Base}
use Rattle.aidl_schema.specs.declared.schema.Base.TheVariants as base
use Rattle.aidl_schema.specs.Types.{Form, form_of, form_of_decl, form_of_kind}
use Rattle.aidl_schema.specs.Types as form
use Rattle.aidl_values.specs.Sound.{IsDeclared, IsSound, fields_of}
use Rattle.json_writing.specs.Named.{fields_in}

fields_in-kind : (k : Kind) → fields_of k ≡ fields_in (form_of_kind k)
fields_in-kind (Interface ms) = refl
fields_in-kind (Parcelable fs) = refl
fields_in-kind (Union fs) = refl
fields_in-kind (Enum backing.Byte es) = refl
fields_in-kind (Enum backing.Int es) = refl
fields_in-kind (Enum backing.Long es) = refl

module _ (S : List Decl) (P : List Field → Type 0) (no_fields : P []) (each : (d : Decl) → IsDeclared S d → P (fields_of d.kind)) where
  of_decl : (n : ℕ) (o : Option Decl) → slice_get S n ≡ o → P (fields_in (form_of_decl o))
  of_decl n None at = no_fields
  of_decl n (Some d) at = subst P (fields_in-kind d.kind) (each d (n, at))

  -- of the fields of a base
  pub of_base : (b : Base) → P (fields_in (form_of S b))
  of_base base.Boolean = no_fields
  of_base base.Byte = no_fields
  of_base base.Char = no_fields
  of_base base.Int = no_fields
  of_base base.Long = no_fields
  of_base base.Text = no_fields
  of_base (base.Named n) = of_decl n (slice_get S n) refl

-- a union has few fields
pub few_fields : (S : List Decl) → IsSound S → (b : Base) (fs : List Field) → form_of S b ≡ form.union fs → length fs ≤ 4096
few_fields S sound b fs is = subst (λ f. length (fields_in f) ≤ 4096) is (of_base S (λ gs. length gs ≤ 4096) (omega arith) sound.few b)
