-- In a valid schema each type has a default, of the size that the schema counts.
use Rattle.std.proofs.Common.{◌≡◌, ℕ, zero, suc, ◌+◌, ◌<◌, ◌≤◌, max, Bool, true, false, List, [], ◌∷◌, map, Option, Some, None, slice_get, refl, sym, ap, ◌∙◌, subst, arith, true≢false}
use Rattle.std.specs.Prelude.{MatchOption, sum}
use Rattle.std.specs.List.{list_all}
use Rattle.std.proofs.lemmas.List.Sums.{sum_by-cons}
use Rattle.aidl_base.specs.declared.constant.Const.{Const}
use Rattle.aidl_schema.specs.declared.schema.Decl.{Decl}
use Rattle.aidl_schema.specs.declared.schema.Field.{Field}
use Rattle.aidl_schema.specs.declared.schema.Kind.{Kind}
use Rattle.aidl_schema.specs.declared.schema.Kind.TheVariants.{Interface, Parcelable, Union, Enum}
use Rattle.aidl_schema.specs.declared.schema.Backing.TheVariants as backing
use Rattle.aidl_schema.specs.declared.schema.Base.{Base}
use Rattle.aidl_schema.specs.declared.schema.Base.TheVariants as base
use Rattle.aidl_schema.specs.declared.schema.AidlType.{AidlType}
use Rattle.aidl_schema.specs.Containment.{fields_of}
use Rattle.aidl_schema.specs.Sizes.{greatest_of, const_depth, const_nodes, initial_size, field_size, form_depth, form_nodes, depth_by, nodes_by, depth_within, nodes_within}
use Rattle.aidl_schema.specs.Types.{Form, form_of, form_of_kind, form_of_decl, is_one, is_type, is_meant, is_well_shaped}
use Rattle.aidl_schema.specs.Types as form
use Rattle.aidl_schema.specs.Holds.{AllHold}
use Rattle.aidl_schema.specs.Methods.{is_field_type}
use Rattle.aidl_schema.specs.Valid.{has_initializer_of, is_union_whole, are_union_fields}
use Rattle.aidl_base.proofs.lemmas.Tests.{both}
use Rattle.aidl_values.specs.Data.{Data, null, seq, Items, none, depth_of, greatest}
use Rattle.aidl_values.specs.Default.{IsZero, AreInitial, const_value, zero_by, zero_of_form, zero_within, initial_or, initials_by}
use Rattle.aidl_values.specs.HasType.{HasType, FieldsHaveType}
use Rattle.aidl_values.specs.Nodes.{nodes_of, nodes_in}
use Rattle.aidl_values.proofs.ConstValues.{sized}
use Rattle.aidl_values.proofs.Typed.{typed}

-- what v is to a type: its default, of this depth and so many nodes
pub record IsDefault (S : List Decl) (t : AidlType) (v : Data) (depth nodes : ℕ) : Type 0 where
  pub zero_of : IsZero S t v
  pub typed_as : HasType S t v
  pub depth_is : depth_of v ≡ depth
  pub nodes_are : nodes_of v ≡ nodes

-- the same of a field with this initializer
record IsStart (S : List Decl) (t : AidlType) (o : Option Const) (v : Data) (depth nodes : ℕ) : Type 0 where
  initial_of : MatchOption o (IsZero S t v) (λ c. v ≡ const_value c)
  typed_as : HasType S t v
  depth_is : depth_of v ≡ depth
  nodes_are : nodes_of v ≡ nodes

-- and of all fields
record AreStarts (S : List Decl) (fs : List Field) (vs : Items) (depth nodes : ℕ) : Type 0 where
  initials_of : AreInitial S fs vs
  typed_as : FieldsHaveType S fs vs
  depth_is : greatest vs ≡ depth
  nodes_are : nodes_in vs ≡ nodes

-- the tests of a declaration's fields
abbrev pub AreWhole : List Decl → List Field → Type 0
AreWhole S fs = (list_all (λ f. is_field_type S f) fs ≡ true) × (list_all (λ f. has_initializer_of S f.ty f.initial) fs ≡ true)

pub kind_parcelable : (k : Kind) (fs : List Field) → form_of_kind k ≡ form.parcelable fs → k ≡ Parcelable fs
kind_parcelable (Parcelable gs) fs e = cc
kind_parcelable (Union gs) fs e = cc
kind_parcelable (Interface ms) fs e = cc
kind_parcelable (Enum backing.Byte es) fs e = cc
kind_parcelable (Enum backing.Int es) fs e = cc
kind_parcelable (Enum backing.Long es) fs e = cc

pub kind_union : (k : Kind) (fs : List Field) → form_of_kind k ≡ form.union fs → k ≡ Union fs
kind_union (Union gs) fs e = cc
kind_union (Parcelable gs) fs e = cc
kind_union (Interface ms) fs e = cc
kind_union (Enum backing.Byte es) fs e = cc
kind_union (Enum backing.Int es) fs e = cc
kind_union (Enum backing.Long es) fs e = cc

module _ (S : List Decl) (hold : AllHold S) where
  pub kind_whole : (n : ℕ) (d : Decl) → slice_get S n ≡ Some d → AreWhole S (fields_of d.kind)
  kind_whole n d is =
      let h = hold n d is in
      (h.field_types, h.initializers)

  decl_parcelable : (o : Option Decl) (fs : List Field) → ((d : Decl) → o ≡ Some d → AreWhole S (fields_of d.kind)) → form_of_decl o ≡ form.parcelable fs → AreWhole S fs
  decl_parcelable None fs whole e = cc
  decl_parcelable (Some d) fs whole e = subst (λ k. AreWhole S (fields_of k)) (kind_parcelable d.kind fs e) (whole d refl)

  pub parcelable_whole : (b : Base) (fs : List Field) → form_of S b ≡ form.parcelable fs → AreWhole S fs
  parcelable_whole base.Boolean fs e = cc
  parcelable_whole base.Byte fs e = cc
  parcelable_whole base.Char fs e = cc
  parcelable_whole base.Int fs e = cc
  parcelable_whole base.Long fs e = cc
  parcelable_whole base.Text fs e = cc
  parcelable_whole (base.Named n) fs e = decl_parcelable (slice_get S n) fs (λ d is. kind_whole n d is) e

  decl_union : (o : Option Decl) (fs : List Field) → ((d : Decl) → o ≡ Some d → AreWhole S (fields_of d.kind) × (is_union_whole d.kind ≡ true))
      → form_of_decl o ≡ form.union fs → AreWhole S fs × (are_union_fields fs ≡ true)
  decl_union None fs whole e = cc
  decl_union (Some d) fs whole e = subst (λ k. AreWhole S (fields_of k) × (is_union_whole k ≡ true)) (kind_union d.kind fs e) (whole d refl)

  pub union_whole : (b : Base) (fs : List Field) → form_of S b ≡ form.union fs → AreWhole S fs × (are_union_fields fs ≡ true)
  union_whole base.Boolean fs e = cc
  union_whole base.Byte fs e = cc
  union_whole base.Char fs e = cc
  union_whole base.Int fs e = cc
  union_whole base.Long fs e = cc
  union_whole base.Text fs e = cc
  union_whole (base.Named n) fs e = decl_union (slice_get S n) fs (λ d is. (kind_whole n d is, (hold n d is).union)) e

  pub field_type : (f : Field) → is_field_type S f ≡ true → is_type S f.ty ≡ true
  field_type f h = (both _ _ (both _ _ h).0).0

  -- One level, from parts that have their defaults. A part's depth is less than k and at most m.
  module _ (k m : ℕ) (D N : AidlType → ℕ) (Z : AidlType → Data)
      (law : (t : AidlType) → is_type S t ≡ true → suc (D t) < k → suc (D t) ≤ m → IsDefault S t (Z t) (D t) (N t)) where
    start : (t : AidlType) (o : Option Const) → is_type S t ≡ true → has_initializer_of S t o ≡ true
        → suc (initial_size const_depth D o t) < k → suc (initial_size const_depth D o t) ≤ m
        → IsStart S t o (initial_or o (Z t)) (initial_size const_depth D o t) (initial_size const_nodes N o t)
    start t None is h lt le = let d = law t is lt le in record { initial_of = d.zero_of; typed_as = d.typed_as; depth_is = d.depth_is; nodes_are = d.nodes_are }
    start t (Some c) is h lt le = let d = sized c in record { initial_of = refl; typed_as = typed S hold t c h; depth_is = d.depth; nodes_are = d.nodes }

    starts : (fs : List Field) → AreWhole S fs
        → suc (greatest_of (map (λ f. field_size const_depth D f) fs)) < k → suc (greatest_of (map (λ f. field_size const_depth D f) fs)) ≤ m
        → AreStarts S fs (initials_by Z fs) (greatest_of (map (λ f. field_size const_depth D f) fs)) (sum (map (λ f. field_size const_nodes N f) fs))
    starts [] whole lt le = record { initials_of = tt; typed_as = tt; depth_is = refl; nodes_are = refl }
    starts (f ∷ fs) whole lt le =
        let types = both (is_field_type S f) (list_all (λ g. is_field_type S g) fs) whole.0 in
        let inits = both (has_initializer_of S f.ty f.initial) (list_all (λ g. has_initializer_of S g.ty g.initial) fs) whole.1 in
        let first = start f.ty f.initial (field_type f types.0) inits.0 (omega arith) (omega arith) in
        let others = starts fs (types.1, inits.1) (omega arith) (omega arith) in
        record {
          initials_of = (first.initial_of, others.initials_of);
          typed_as = (first.typed_as, others.typed_as);
          depth_is = ap (λ d. max d (greatest (initials_by Z fs))) first.depth_is ∙ ap (λ d. max (field_size const_depth D f) d) others.depth_is;
          nodes_are = ap (λ d. d + nodes_in (initials_by Z fs)) first.nodes_are ∙ ap (λ d. field_size const_nodes N f + d) others.nodes_are
              ∙ sym (sum_by-cons (λ x. x) (field_size const_nodes N f) (map (λ g. field_size const_nodes N g) fs));
        }

    by_form : (t : AidlType) (f : Form) → form_of S t.base ≡ f → is_meant f ≡ true → t.nullable ≡ false → is_one t.shape ≡ true
        → form_depth (λ g. field_size const_depth D g) f < k → form_depth (λ g. field_size const_depth D g) f ≤ m
        → IsDefault S t (zero_of_form Z f) (form_depth (λ g. field_size const_depth D g) f) (form_nodes (λ g. field_size const_nodes N g) f)
    by_form t form.truth is meant there one lt le = record { zero_of = (there, one, rw is refl); typed_as = (one, is); depth_is = refl; nodes_are = refl }
    by_form t form.byte is meant there one lt le = record { zero_of = (there, one, rw is refl); typed_as = (one, rw is refl); depth_is = refl; nodes_are = refl }
    by_form t form.char is meant there one lt le = record { zero_of = (there, one, rw is refl); typed_as = (one, rw is refl); depth_is = refl; nodes_are = refl }
    by_form t form.int is meant there one lt le = record { zero_of = (there, one, rw is refl); typed_as = (one, rw is refl); depth_is = refl; nodes_are = refl }
    by_form t form.long is meant there one lt le = record { zero_of = (there, one, rw is refl); typed_as = (one, rw is refl); depth_is = refl; nodes_are = refl }
    by_form t form.text is meant there one lt le = record { zero_of = (there, one, rw is refl); typed_as = (one, is, refl); depth_is = refl; nodes_are = refl }
    by_form t (form.parcelable fs) is meant there one lt le =
        let all = starts fs (parcelable_whole t.base fs is) lt le in
        record { zero_of = (there, one, fs, is, all.initials_of); typed_as = (one, fs, is, all.typed_as); depth_is = ap suc all.depth_is; nodes_are = ap suc all.nodes_are }
    by_form t (form.union []) is meant there one lt le = absurd (true≢false (sym (union_whole t.base [] is).1))
    by_form t (form.union (f ∷ fs)) is meant there one lt le =
        let whole = (union_whole t.base (f ∷ fs) is).0 in
        let types = both (is_field_type S f) (list_all (λ g. is_field_type S g) fs) whole.0 in
        let inits = both (has_initializer_of S f.ty f.initial) (list_all (λ g. has_initializer_of S g.ty g.initial) fs) whole.1 in
        let first = start f.ty f.initial (field_type f types.0) inits.0 lt le in
        record { zero_of = (there, one, f, fs, is, refl, first.initial_of); typed_as = (one, f ∷ fs, is, f, refl, first.typed_as); depth_is = ap suc first.depth_is; nodes_are = ap suc first.nodes_are }
    by_form t form.nothing is meant there one lt le = cc

    by_flags : (t : AidlType) (null_able one : Bool) → t.nullable ≡ null_able → is_one t.shape ≡ one → is_type S t ≡ true
        → depth_by S D t < k → depth_by S D t ≤ m → IsDefault S t (zero_by S Z t) (depth_by S D t) (nodes_by S N t)
    by_flags t true one e is h lt le =
        let v : zero_by S Z t ≡ null = rw e refl in
        let d : depth_by S D t ≡ 0 = rw e refl in
        let n : nodes_by S N t ≡ 1 = rw e refl in
        rw (v, d, n) (record { zero_of = e; typed_as = e; depth_is = refl; nodes_are = refl })
    by_flags t false false e is h lt le =
        let v : zero_by S Z t ≡ seq none = rw (e, is) refl in
        let d : depth_by S D t ≡ 1 = rw (e, is) refl in
        let n : nodes_by S N t ≡ 1 = rw (e, is) refl in
        rw (v, d, n) (record { zero_of = (e, is, refl); typed_as = (is, tt); depth_is = refl; nodes_are = refl })
    by_flags t false true e is h lt le =
        let v : zero_by S Z t ≡ zero_of_form Z (form_of S t.base) = rw (e, is) refl in
        let d : depth_by S D t ≡ form_depth (λ g. field_size const_depth D g) (form_of S t.base) = rw (e, is) refl in
        let n : nodes_by S N t ≡ form_nodes (λ g. field_size const_nodes N g) (form_of S t.base) = rw (e, is) refl in
        rw (v, d, n) (by_form t (form_of S t.base) refl (both _ _ h).0 e is (rw d at lt) (rw d at le))

  -- The default of a type that is no deeper than k levels counted, at any number of levels that it needs.
  pub settled : (k m : ℕ) (t : AidlType) → is_type S t ≡ true → depth_within k S t < k → depth_within k S t ≤ m
      → IsDefault S t (zero_within m S t) (depth_within k S t) (nodes_within k S t)
  unfolding depth_within nodes_within zero_within
  settled zero m t is lt le = absurd (omega arith)
  settled (suc k) zero t is lt le =
      by_flags (suc k) zero (λ u. depth_within k S u) (λ u. nodes_within k S u) (λ u. null) (λ u h less none_left. absurd (omega arith))
      t t.nullable (is_one t.shape) refl refl is lt le
  settled (suc k) (suc m) t is lt le =
      by_flags (suc k) (suc m) (λ u. depth_within k S u) (λ u. nodes_within k S u) (λ u. zero_within m S u) (λ u h less left. settled k m u h (omega arith) (omega arith))
      t t.nullable (is_one t.shape) refl refl is lt le
