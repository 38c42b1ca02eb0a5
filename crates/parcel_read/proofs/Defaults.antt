-- The default of an id is that of the type for which it stands.
use Rattle.std.proofs.Common.{◌≡◌, ℕ, zero, suc, Bool, true, false, ◌&&◌, List, [], ◌∷◌, length, take, drop, Some, refl, ap, ◌∙◌}
use Rattle.std.specs.Prelude.{MatchBool, if◌then◌else◌}
use Rattle.aidl_base.proofs.lemmas.Tests.{both}
use Rattle.aidl_schema.specs.declared.schema.AidlType.{AidlType}
use Rattle.aidl_schema.specs.declared.schema.Decl.{Decl}
use Rattle.aidl_schema.specs.declared.schema.Field.{Field}
use Rattle.aidl_schema.specs.declared.schema.Shape.{Shape}
use Rattle.aidl_schema.specs.declared.schema.Shape.TheVariants as shape
use Rattle.aidl_schema.specs.Types.{Form, form_of, is_one, is_raw, is_meant, is_well_shaped, elem}
use Rattle.aidl_schema.specs.Types as form
use Rattle.aidl_values.specs.Data.{Data, null, seq, rec, alt, none, item}
use Rattle.aidl_values.specs.Default.{initial_or, initial_by, initials_by, zero_of_form, zero_by, zero_within}
use Rattle.aidl_values.specs.Sound.{initial_in}
use Rattle.marshal_plans.specs.declared.plans.PlanField.{PlanField}
use Rattle.marshal_plans.specs.declared.plans.PlanId.{PlanId}
use Rattle.marshal_plans.specs.declared.plans.PlanItem.{PlanItem}
use Rattle.marshal_plans.specs.declared.plans.PlanItem.TheVariants.{Raw, Seq}
use Rattle.marshal_plans.specs.declared.plans.Plans.{Plans}
use Rattle.marshal_plans.specs.Standing.{OneForOne, StandsFor, IsEntryOf, IsOneItem, IsItemOf, StandFor}
use Rattle.marshal_plans.proofs.lemmas.Matching.{matched}
use Rattle.parcel_read.specs.steps.PlanDefault.{entry_default, entry_defaults, first_default, item_default, plan_default, initial_by_plan}

-- one level, from parts that have the defaults of their types
module _ (types : List AidlType) (entries : List PlanField) (of_id : PlanId → Data) (of_type : AidlType → Data)
    (parts : (id : PlanId) (t : AidlType) → StandsFor types id t → of_id id ≡ of_type t) where
  pub entry_is : (f : Field) (g : PlanField) → IsEntryOf types f g → entry_default of_id g ≡ initial_by of_type f
  entry_is f g h = ap (λ o. initial_or o (of_id g.item)) h.1 ∙ ap (λ v. initial_or f.initial v) (parts g.item f.ty h.0)

  entries_are : (fs : List Field) (gs : List PlanField) → OneForOne (λ f g. IsEntryOf types f g) fs gs → entry_defaults of_id gs ≡ initials_by of_type fs
  entries_are [] [] h = refl
  entries_are [] (g ∷ gs) h = elim h [ ]
  entries_are (f ∷ fs) [] h = elim h [ ]
  entries_are (f ∷ fs) (g ∷ gs) h = ap (λ v. item v (entry_defaults of_id gs)) (entry_is f g h.0) ∙ ap (λ vs. item (initial_by of_type f) vs) (entries_are fs gs h.1)

  first_is : (fs : List Field) (gs : List PlanField) → OneForOne (λ f g. IsEntryOf types f g) fs gs → first_default of_id gs ≡ zero_of_form of_type (form.union fs)
  first_is [] [] h = refl
  first_is [] (g ∷ gs) h = elim h [ ]
  first_is (f ∷ fs) [] h = elim h [ ]
  first_is (f ∷ fs) (g ∷ gs) h = ap (λ v. alt 0 v) (entry_is f g h.0)

  abbrev by_item : PlanItem → Data
  by_item i = item_default of_id entries (Some i)

  one_is : (nullable : Bool) (f : Form) (i : PlanItem) → IsOneItem types entries nullable f i → is_well_shaped shape.One nullable f ≡ true
      → by_item i ≡ (if nullable then null else zero_of_form of_type f)
  one_is true form.truth i h well = cc
  one_is false form.truth i h well = ap by_item h
  one_is true form.byte i h well = cc
  one_is false form.byte i h well = ap by_item h
  one_is true form.char i h well = cc
  one_is false form.char i h well = ap by_item h
  one_is true form.int i h well = cc
  one_is false form.int i h well = ap by_item h
  one_is true form.long i h well = cc
  one_is false form.long i h well = ap by_item h
  one_is true form.text i h well = ap by_item h
  one_is false form.text i h well = ap by_item h
  one_is true (form.parcelable fs) i h well = ap by_item h.1
  one_is false (form.parcelable fs) i h well = ap by_item h.1 ∙ ap rec (entries_are fs (take (length fs) (drop h.0 entries)) h.2)
  one_is true (form.union fs) i h well = ap by_item h.1
  one_is false (form.union fs) i h well = ap by_item h.1 ∙ first_is fs (take (length fs) (drop h.0 entries)) h.2
  one_is nullable form.nothing i h well = elim h [ ]

  many_is : (nullable raw : Bool) (u : AidlType) (i : PlanItem) → MatchBool raw (i ≡ Raw nullable) ((e : PlanId) × (i ≡ Seq nullable e) × StandsFor types e u)
      → by_item i ≡ (if nullable then null else seq none)
  many_is nullable true u i h = ap by_item h
  many_is nullable false u i h = ap by_item h.1

  item_is : (S : List Decl) (t : AidlType) (i : PlanItem) → IsItemOf S types entries t i → (is_meant (form_of S t.base) && is_well_shaped t.shape t.nullable (form_of S t.base)) ≡ true
      → by_item i ≡ zero_by S of_type t
  item_is S t i h well = by_shape t.shape h well
    where
      by_shape : (s : Shape) → MatchBool (is_one s) (IsOneItem types entries t.nullable (form_of S t.base) i) (MatchBool (is_raw S t) (i ≡ Raw t.nullable) ((e : PlanId) × (i ≡ Seq t.nullable e) × StandsFor types e (elem S t)))
          → (is_meant (form_of S t.base) && is_well_shaped s t.nullable (form_of S t.base)) ≡ true
          → by_item i ≡ (if t.nullable then null else (if is_one s then zero_of_form of_type (form_of S t.base) else seq none))
      by_shape shape.One k w = one_is t.nullable (form_of S t.base) i k (both (is_meant (form_of S t.base)) (is_well_shaped shape.One t.nullable (form_of S t.base)) w).1
      by_shape shape.Array k w = many_is t.nullable (is_raw S t) (elem S t) i k
      by_shape shape.List k w = many_is t.nullable (is_raw S t) (elem S t) i k

module _ (S : List Decl) (extra types : List AidlType) (P : Plans) (stand : StandFor S extra types P) where
  pub default_is : (n : ℕ) (id : PlanId) (t : AidlType) → StandsFor types id t → plan_default n P id ≡ zero_within n S t
  unfolding plan_default zero_within
  default_is zero id t at =
      let i = matched (λ u j. IsItemOf S types P.fields u j) types P.items id.0 t stand.items at in
      ap (λ o. item_default (λ u. null) P.fields o) i.1
      ∙ item_is types P.fields (λ u. null) (λ u. null) (λ u v h. refl) S t i.0 i.2 (stand.of_schema id.0 t at)
  default_is (suc n) id t at =
      let i = matched (λ u j. IsItemOf S types P.fields u j) types P.items id.0 t stand.items at in
      ap (λ o. item_default (λ u. plan_default n P u) P.fields o) i.1
      ∙ item_is types P.fields (λ u. plan_default n P u) (λ u. zero_within n S u) (λ u v h. default_is n u v h) S t i.0 i.2 (stand.of_schema id.0 t at)

  pub initial_is : (f : Field) (g : PlanField) → IsEntryOf types f g → initial_by_plan P g ≡ initial_in S f
  initial_is f g h = entry_is types P.fields (λ u. plan_default 33 P u) (λ u. zero_within 33 S u) (λ u v k. default_is 33 u v k) f g h
