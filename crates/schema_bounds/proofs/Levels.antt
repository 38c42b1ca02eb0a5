-- Sizes that are right up to a number are right up to one more after one more count.
use Rattle.std.proofs.Common.{◌≡◌, ℕ, zero, suc, ◌+◌, ◌≤◌, min, Bool, true, false, List, [], ◌∷◌, map, Option, Some, None, slice_get, refl, sym, ap, ◌∙◌, subst, add-one, arith}
use Rattle.std.specs.Prelude.{slice_index_or, option_map, unwrap_or}
use Rattle.std.proofs.lemmas.Option.{slice_get-map, unwrap_or-slice_get}
use Rattle.aidl_base.specs.declared.constant.Const.{Const}
use Rattle.aidl_schema.specs.declared.schema.Decl.{Decl}
use Rattle.aidl_schema.specs.declared.schema.Field.{Field}
use Rattle.aidl_schema.specs.declared.schema.Kind.{Kind}
use Rattle.aidl_schema.specs.declared.schema.Kind.TheVariants.{Interface, Parcelable, Union, Enum}
use Rattle.aidl_schema.specs.declared.schema.Backing.TheVariants as backing
use Rattle.aidl_schema.specs.declared.schema.Base.{Base}
use Rattle.aidl_schema.specs.declared.schema.Base.TheVariants as base
use Rattle.aidl_schema.specs.declared.schema.AidlType.{AidlType}
use Rattle.aidl_schema.specs.Sizes.{const_depth, const_nodes, initial_size, field_size, form_depth, form_nodes, default_depth, default_nodes}
use Rattle.aidl_schema.specs.Types.{Form, form_of, form_of_kind, form_of_decl, is_one}
use Rattle.aidl_schema.specs.Types as form
use Rattle.aidl_schema.specs.Valid.{one_of}
use Rattle.aidl_schema.proofs.lemmas.Counts.{default_depth-by, default_nodes-by}
use Rattle.schema_bounds.specs.declared.measure.Measure.{Measure}
use Rattle.schema_bounds.specs.declared.measure.Measure.TheVariants.{Depth, Nodes}
use Rattle.schema_bounds.proofs.Totals.{greatest_is, sum_is}
use Rattle.schema_bounds.specs.steps.Measures.{most, leaf, beside, total, const_size, default_size, base_size, type_size, start_size, first_size, kind_size, AreRight}

-- one level of a form, and of a type
abbrev first_of : Measure → (Field → ℕ) → List Field → ℕ
first_of m of_field [] = 1
first_of m of_field (f ∷ fs) = suc (of_field f)

abbrev form_size : Measure → (Field → ℕ) → Form → ℕ
form_size m of_field (form.parcelable fs) = suc (total m (map of_field fs))
form_size m of_field (form.union fs) = first_of m of_field fs
form_size m of_field _ = leaf m

abbrev field_by : Measure → (AidlType → ℕ) → Field → ℕ
field_by m of_type f = field_size (λ c. const_size m c) of_type f

depth_of_form : (of_field : Field → ℕ) (f : Form) → form_depth of_field f ≡ form_size Depth of_field f
depth_of_form g (form.parcelable fs) = ap (λ (n : ℕ). suc n) (greatest_is (map g fs))
depth_of_form g (form.union []) = refl
depth_of_form g (form.union (f ∷ fs)) = refl
depth_of_form g form.truth = refl
depth_of_form g form.byte = refl
depth_of_form g form.char = refl
depth_of_form g form.int = refl
depth_of_form g form.long = refl
depth_of_form g form.text = refl
depth_of_form g form.nothing = refl

nodes_of_form : (of_field : Field → ℕ) (f : Form) → form_nodes of_field f ≡ form_size Nodes of_field f
nodes_of_form g (form.parcelable fs) = ap (λ (n : ℕ). suc n) (sum_is (map g fs))
nodes_of_form g (form.union []) = refl
nodes_of_form g (form.union (f ∷ fs)) = refl
nodes_of_form g form.truth = refl
nodes_of_form g form.byte = refl
nodes_of_form g form.char = refl
nodes_of_form g form.int = refl
nodes_of_form g form.long = refl
nodes_of_form g form.text = refl
nodes_of_form g form.nothing = refl

-- the size of a null value, of an empty sequence and of one value
of_null : (m : Measure) (S : List Decl) (t : AidlType) → t.nullable ≡ true → default_size m S t ≡ min (most m) (leaf m)
of_null Depth S t e = default_depth-by S t ∙ rw e refl
of_null Nodes S t e = default_nodes-by S t ∙ rw e refl

of_sequence : (m : Measure) (S : List Decl) (t : AidlType) → t.nullable ≡ false → is_one t.shape ≡ false → default_size m S t ≡ min (most m) 1
of_sequence Depth S t e s = default_depth-by S t ∙ rw (e, s) refl
of_sequence Nodes S t e s = default_nodes-by S t ∙ rw (e, s) refl

of_one : (m : Measure) (S : List Decl) (t : AidlType) → t.nullable ≡ false → is_one t.shape ≡ true
    → default_size m S t ≡ min (most m) (form_size m (λ f. field_by m (λ u. default_size m S u) f) (form_of S t.base))
of_one Depth S t e s =
    default_depth-by S t ∙ rw (e, s) (ap (λ n. min 33 n) (depth_of_form (λ f. field_size const_depth (λ u. default_depth S u) f) (form_of S t.base)))
of_one Nodes S t e s =
    default_nodes-by S t ∙ rw (e, s) (ap (λ n. min 513 n) (nodes_of_form (λ f. field_size const_nodes (λ u. default_nodes S u) f) (form_of S t.base)))

module _ (m : Measure) (S : List Decl) (sizes : List ℕ) (k : ℕ) (le : suc k ≤ most m) (right : AreRight m S sizes k) where
  base_right : (t : AidlType) (b : Base) → t.base ≡ b → t.nullable ≡ false → is_one t.shape ≡ true → min k (base_size m sizes b) ≡ min k (default_size m S t)
  base_right t (base.Named n) e null one =
      let same : default_size m S t ≡ default_size m S (one_of n) =
      of_one m S t null one ∙ ap (λ b. min (most m) (form_size m (λ f. field_by m (λ u. default_size m S u) f) (form_of S b))) e ∙ sym (of_one m S (one_of n) refl refl) in
      right n ∙ ap (λ d. min k d) (sym same)
  base_right t base.Boolean e null one = let is = of_one m S t null one ∙ ap (λ b. min (most m) (form_size m (λ f. field_by m (λ u. default_size m S u) f) (form_of S b))) e in omega arith
  base_right t base.Byte e null one = let is = of_one m S t null one ∙ ap (λ b. min (most m) (form_size m (λ f. field_by m (λ u. default_size m S u) f) (form_of S b))) e in omega arith
  base_right t base.Char e null one = let is = of_one m S t null one ∙ ap (λ b. min (most m) (form_size m (λ f. field_by m (λ u. default_size m S u) f) (form_of S b))) e in omega arith
  base_right t base.Int e null one = let is = of_one m S t null one ∙ ap (λ b. min (most m) (form_size m (λ f. field_by m (λ u. default_size m S u) f) (form_of S b))) e in omega arith
  base_right t base.Long e null one = let is = of_one m S t null one ∙ ap (λ b. min (most m) (form_size m (λ f. field_by m (λ u. default_size m S u) f) (form_of S b))) e in omega arith
  base_right t base.Text e null one = let is = of_one m S t null one ∙ ap (λ b. min (most m) (form_size m (λ f. field_by m (λ u. default_size m S u) f) (form_of S b))) e in omega arith

  type_by : (t : AidlType) (null one : Bool) → t.nullable ≡ null → is_one t.shape ≡ one → min k (type_size m sizes t) ≡ min k (default_size m S t)
  type_by t true one e s = let here : type_size m sizes t ≡ leaf m = rw e refl in let is = of_null m S t e in omega arith
  type_by t false false e s = let here : type_size m sizes t ≡ 1 = rw (e, s) refl in let is = of_sequence m S t e s in omega arith
  type_by t false true e s = let here : type_size m sizes t ≡ base_size m sizes t.base = rw (e, s) refl in ap (λ n. min k n) here ∙ base_right t t.base refl e s

  start_by : (o : Option Const) (t : AidlType)
      → min k (initial_size (λ c. const_size m c) (λ u. type_size m sizes u) o t) ≡ min k (initial_size (λ c. const_size m c) (λ u. default_size m S u) o t)
  start_by None t = type_by t t.nullable (is_one t.shape) refl refl
  start_by (Some c) t = refl

  beside_right : (n : Measure) (a b x y : ℕ) → min k a ≡ min k b → min k x ≡ min k y → min k (beside n a x) ≡ min k (beside n b y)
  beside_right Depth a b x y p q = omega arith
  beside_right Nodes a b x y p q = omega arith

  total_right : (fs : List Field) → min k (total m (map (λ f. start_size m sizes f) fs)) ≡ min k (total m (map (λ f. field_by m (λ u. default_size m S u) f) fs))
  total_right [] = refl
  total_right (f ∷ fs) =
      beside_right m (start_size m sizes f) (field_by m (λ u. default_size m S u) f) (total m (map (λ f. start_size m sizes f) fs))
      (total m (map (λ f. field_by m (λ u. default_size m S u) f) fs)) (start_by f.initial f.ty) (total_right fs)

  first_right : (fs : List Field) → min (suc k) (first_size m sizes fs) ≡ min (suc k) (first_of m (λ f. field_by m (λ u. default_size m S u) f) fs)
  first_right [] = refl
  first_right (f ∷ fs) = let one = start_by f.initial f.ty in omega arith

  kind_by : (d : Kind) → min (suc k) (kind_size m sizes d) ≡ min (suc k) (form_size m (λ f. field_by m (λ u. default_size m S u) f) (form_of_kind d))
  kind_by (Parcelable fs) = let all = total_right fs in omega arith
  kind_by (Union fs) = first_right fs
  kind_by (Interface ms) = refl
  kind_by (Enum backing.Byte es) = refl
  kind_by (Enum backing.Int es) = refl
  kind_by (Enum backing.Long es) = refl

  at : (n : ℕ) (o : Option Decl) → slice_get S n ≡ o → min (suc k) (slice_index_or (map (λ d. min (most m) (kind_size m sizes d.kind)) S) n (leaf m)) ≡ min (suc k) (default_size m S (one_of n))
  at n o e = by_decl o e (sym (unwrap_or-slice_get (map (λ d. min (most m) (kind_size m sizes d.kind)) S) n (leaf m))
      ∙ ap (λ x. unwrap_or x (leaf m)) (slice_get-map (λ d. min (most m) (kind_size m sizes d.kind)) S n ∙ ap (option_map (λ d. min (most m) (kind_size m sizes d.kind))) e))
      (of_one m S (one_of n) refl refl ∙ ap (λ x. min (most m) (form_size m (λ f. field_by m (λ u. default_size m S u) f) (form_of_decl x))) e)
    where
      by_decl : (o : Option Decl) → slice_get S n ≡ o → slice_index_or (map (λ d. min (most m) (kind_size m sizes d.kind)) S) n (leaf m) ≡ unwrap_or (option_map (λ d. min (most m) (kind_size m sizes d.kind)) o) (leaf m)
          → default_size m S (one_of n) ≡ min (most m) (form_size m (λ f. field_by m (λ u. default_size m S u) f) (form_of_decl o))
          → min (suc k) (slice_index_or (map (λ d. min (most m) (kind_size m sizes d.kind)) S) n (leaf m)) ≡ min (suc k) (default_size m S (one_of n))
      by_decl None e here is = omega arith
      by_decl (Some d) e here is = let same = kind_by d.kind in omega arith

  pub one_more : (new : List ℕ) → new ≡ map (λ d. min (most m) (kind_size m sizes d.kind)) S → AreRight m S new (suc k)
  one_more new is n = ap (λ xs. min (suc k) (slice_index_or xs n (leaf m))) is ∙ at n (slice_get S n) refl

-- what one more count doesn't change is right
pub steady : (m : Measure) (S : List Decl) (sizes : List ℕ) → sizes ≡ map (λ d. min (most m) (kind_size m sizes d.kind)) S → (k : ℕ) → k ≤ most m → AreRight m S sizes k
steady m S sizes same zero le n = omega arith
steady m S sizes same (suc k) le n = one_more m S sizes k le (steady m S sizes same k (omega arith)) sizes same n

pub one_count : (m : Measure) (S : List Decl) (sizes new : List ℕ) (k : ℕ) → k + 1 ≤ most m → AreRight m S sizes k → new ≡ map (λ d. min (most m) (kind_size m sizes d.kind)) S
    → AreRight m S new (k + 1)
one_count m S sizes new k le right is = subst (λ (j : ℕ). AreRight m S new j) (sym (add-one k)) (one_more m S sizes k (omega arith) right new is)
