-- In a valid schema defaults are small, each type has one, and so the schema is sound.
use Rattle.std.proofs.Common.{◌≡◌, ℕ, zero, suc, ◌+◌, ◌≤◌, Bool, true, false, List, [], ◌∷◌, Option, Some, None, slice_get, refl, sym, ◌∙◌, subst, arith}
use Rattle.std.specs.Prelude.{MatchOption}
use Rattle.std.specs.List.{list_all}
use Rattle.aidl_base.specs.declared.constant.Const.{Const}
use Rattle.aidl_schema.specs.declared.schema.Decl.{Decl}
use Rattle.aidl_schema.specs.declared.schema.Field.{Field}
use Rattle.aidl_schema.specs.declared.schema.Base.{Base}
use Rattle.aidl_schema.specs.declared.schema.Base.TheVariants as base
use Rattle.aidl_schema.specs.declared.schema.AidlType.{AidlType}
use Rattle.aidl_schema.specs.Containment.{fields_of}
use Rattle.aidl_schema.specs.Sizes.{AreSteady, depth_by, nodes_by, depth_within, nodes_within, default_depth, default_nodes}
use Rattle.aidl_schema.specs.Types.{form_of, form_of_decl, is_one, is_type, is_meant}
use Rattle.aidl_schema.specs.Holds.{AllHold}
use Rattle.aidl_schema.specs.Methods.{is_field_type}
use Rattle.aidl_schema.specs.Valid.{one_of, has_initializer_of}
use Rattle.aidl_base.proofs.lemmas.Tests.{both}
use Rattle.aidl_values.specs.Data.{Data, depth_of}
use Rattle.aidl_values.specs.Default.{IsZero, const_value, zero_within, initial_or}
use Rattle.aidl_values.specs.HasType.{HasType}
use Rattle.aidl_values.specs.Nodes.{nodes_of}
use Rattle.aidl_values.specs.Sound.{IsFieldOf, AreTypes, HasDefault, HaveDefaults, IsSound}
use Rattle.aidl_values.proofs.Defaults.{IsDefault, AreWhole, field_type, kind_whole, settled}
use Rattle.aidl_values.proofs.lemmas.Levels.{depth_within-suc, nodes_within-suc}
use Rattle.aidl_values.proofs.lemmas.OneZero.{one_zero}
use Rattle.aidl_values.proofs.Typed.{typed}

-- a value of the type, of the sizes that the schema counts for the type's default
pub record IsSizedDefault (S : List Decl) (t : AidlType) (v : Data) : Type 0 where
  pub typed_as : HasType S t v
  pub depth_is : depth_of v ≡ default_depth S t
  pub nodes_are : nodes_of v ≡ default_nodes S t
  pub shallow : depth_of v ≤ 32
  pub small : nodes_of v ≤ 512

module _ (S : List Decl) (D N : AidlType → ℕ) (law : (n : ℕ) (d : Decl) → slice_get S n ≡ Some d → (depth_by S D (one_of n) ≤ 32) × (nodes_by S N (one_of n) ≤ 512)) where
  of_named : (n : ℕ) (o : Option Decl) → slice_get S n ≡ o → is_meant (form_of_decl o) ≡ true → (depth_by S D (one_of n) ≤ 32) × (nodes_by S N (one_of n) ≤ 512)
  of_named n None is meant = cc
  of_named n (Some d) is meant = law n d is

  of_base : (t : AidlType) (b : Base) → t.base ≡ b → t.nullable ≡ false → is_one t.shape ≡ true → is_meant (form_of S b) ≡ true
      → (depth_by S D t ≤ 32) × (nodes_by S N t ≤ 512)
  of_base t base.Boolean is e one meant = rw (e, one, is) (omega arith, omega arith)
  of_base t base.Byte is e one meant = rw (e, one, is) (omega arith, omega arith)
  of_base t base.Char is e one meant = rw (e, one, is) (omega arith, omega arith)
  of_base t base.Int is e one meant = rw (e, one, is) (omega arith, omega arith)
  of_base t base.Long is e one meant = rw (e, one, is) (omega arith, omega arith)
  of_base t base.Text is e one meant = rw (e, one, is) (omega arith, omega arith)
  of_base t (base.Named n) is e one meant = rw (e, one, is) (of_named n (slice_get S n) refl meant)

  of_flags : (t : AidlType) (null_able one : Bool) → t.nullable ≡ null_able → is_one t.shape ≡ one → is_type S t ≡ true → (depth_by S D t ≤ 32) × (nodes_by S N t ≤ 512)
  of_flags t true one e is h = rw e (omega arith, omega arith)
  of_flags t false false e is h = rw (e, is) (omega arith, omega arith)
  of_flags t false true e is h = of_base t t.base refl e is (both _ _ h).0

module _ (S : List Decl) (hold : AllHold S) (steady : AreSteady S) where
  decl_small : (n : ℕ) (d : Decl) → slice_get S n ≡ Some d → (depth_within 33 S (one_of n) ≤ 32) × (nodes_within 513 S (one_of n) ≤ 512)
  decl_small n d is =
      let h = hold n d is in
      (omega (arith, h.depth), omega (arith, h.nodes))

  -- E23 bounds the default of each type.
  pub small : (t : AidlType) → is_type S t ≡ true → (depth_within 33 S t ≤ 32) × (nodes_within 513 S t ≤ 512)
  small t is = rw (depth_within-suc 32 S t, nodes_within-suc 512 S t) (of_flags S (λ u. depth_within 32 S u) (λ u. nodes_within 512 S u)
      (λ n d there. let h = decl_small n d there in rw (depth_within-suc 32 S (one_of n), nodes_within-suc 512 S (one_of n)) at h)
      t t.nullable (is_one t.shape) refl refl is)

  -- each type has its default
  pub default_there : (t : AidlType) → is_type S t ≡ true → IsDefault S t (zero_within 33 S t) (depth_within 33 S t) (nodes_within 513 S t)
  default_there t is =
      let few = small t is in
      let same = steady.depth 33 513 t (omega arith) in
      let d = settled S hold 33 33 t is (omega (arith, few.0)) (omega (arith, few.0)) in
      let deep = settled S hold 513 33 t is (omega (arith, few.0, same)) (omega (arith, few.0, same)) in
      record { zero_of = d.zero_of; typed_as = d.typed_as; depth_is = d.depth_is; nodes_are = deep.nodes_are }

  -- and no other
  pub one_default : (t : AidlType) (v : Data) → is_type S t ≡ true → IsZero S t v → v ≡ zero_within 33 S t
  one_default t v is h =
      let d = default_there t is in
      let few = small t is in
      one_zero S (depth_of v + 33) t v h (omega arith)
      ∙ sym (one_zero S (depth_of v + 33) t (zero_within 33 S t) d.zero_of (omega (arith, d.depth_is, few.0)))

  -- a default's type and its sizes
  pub default_fits : (t : AidlType) → is_type S t ≡ true → IsSizedDefault S t (zero_within 33 S t)
  default_fits t is =
      let d = default_there t is in
      let few = small t is in
      let shallow : default_depth S t ≡ depth_within 33 S t = omega (arith, few.0) in
      let less : default_nodes S t ≡ nodes_within 513 S t = omega (arith, few.1) in
      record {
        typed_as = d.typed_as;
        depth_is = d.depth_is ∙ sym shallow;
        nodes_are = d.nodes_are ∙ sym less;
        shallow = omega (arith, d.depth_is, few.0);
        small = omega (arith, d.nodes_are, few.1);
      }

  initial_there : (t : AidlType) (o : Option Const) → is_type S t ≡ true → has_initializer_of S t o ≡ true
      → MatchOption o (IsZero S t (initial_or o (zero_within 33 S t))) (λ c. initial_or o (zero_within 33 S t) ≡ const_value c) × HasType S t (initial_or o (zero_within 33 S t))
  initial_there t None is h = let d = default_there t is in (d.zero_of, d.typed_as)
  initial_there t (Some c) is h = (refl, typed S hold t c h)

  are_types : (fs : List Field) → list_all (λ f. is_field_type S f) fs ≡ true → AreTypes S fs
  are_types [] h = tt
  are_types (f ∷ fs) h = let two = both (is_field_type S f) (list_all (λ g. is_field_type S g) fs) h in (field_type S hold f two.0, are_types fs two.1)

  have_defaults : (fs : List Field) → AreWhole S fs → HaveDefaults S fs
  have_defaults [] whole = tt
  have_defaults (f ∷ fs) whole =
      let types = both (is_field_type S f) (list_all (λ g. is_field_type S g) fs) whole.0 in
      let inits = both (has_initializer_of S f.ty f.initial) (list_all (λ g. has_initializer_of S g.ty g.initial) fs) whole.1 in
      (initial_there f.ty f.initial (field_type S hold f types.0) inits.0, have_defaults fs (types.1, inits.1))

  -- A valid schema is sound.
  pub is_sound : IsSound S
  is_sound = record {
    types = λ d declared. are_types (fields_of d.kind) (kind_whole S hold declared.0 d declared.1).0;
    defaults = λ d declared. have_defaults (fields_of d.kind) (kind_whole S hold declared.0 d declared.1);
    few = λ d declared. (hold declared.0 d declared.1).few_fields;
  }

  fields_have : (fs : List Field) (k : ℕ) (f : Field) → HaveDefaults S fs → slice_get fs k ≡ Some f → HasDefault S f
  fields_have [] k f have e = cc
  fields_have (g ∷ fs) zero f have e = let same : g ≡ f = cc in subst (λ x. HasDefault S x) same have.0
  fields_have (g ∷ fs) (suc k) f have e = fields_have fs k f have.1 e

  -- a field of the schema has its default
  pub has_default : (f : Field) → IsFieldOf S f → HasDefault S f
  has_default f of = fields_have (fields_of of.0.kind) of.2 f (is_sound.defaults of.0 of.1) of.3
