-- The sizes that are counted of a type's default are those of the default, whatever the declarations are.
use Rattle.std.proofs.Common.{◌≡◌, ℕ, zero, suc, ◌≤◌, min, true, false, Bool, ◌&&◌, List, [], ◌∷◌, map, Option, Some, None, ◌↔◌, refl, sym, ap, subst, arith}
use Rattle.std.specs.Prelude.{pos, MatchOption, sum, nat_le}
use Rattle.std.proofs.lemmas.Bool.Decides.{nat_tests}
use Rattle.std.proofs.lemmas.List.Sums.{sum_by-cons}
use Rattle.aidl_base.specs.declared.constant.Const.{Const}
use Rattle.aidl_base.proofs.lemmas.Tests.{both}
use Rattle.aidl_schema.specs.declared.schema.Decl.{Decl}
use Rattle.aidl_schema.specs.declared.schema.Field.{Field}
use Rattle.aidl_schema.specs.declared.schema.AidlType.{AidlType}
use Rattle.aidl_schema.specs.Sizes.{greatest_of, const_depth, const_nodes, initial_size, field_size, form_depth, form_nodes, depth_by, nodes_by, depth_within, nodes_within, has_small_default}
use Rattle.aidl_schema.specs.Types.{Form, form_of, is_one}
use Rattle.aidl_schema.specs.Types as form
use Rattle.aidl_values.specs.Data.{Data, null, truth, number, text, seq, rec, alt, Items, none, item, depth_of, greatest}
use Rattle.aidl_values.specs.Default.{IsZero, AreInitial, const_value, simple_zero}
use Rattle.aidl_values.specs.Ends.{IsSmall}
use Rattle.aidl_values.specs.Nodes.{nodes_of, nodes_in}
use Rattle.aidl_values.proofs.ConstValues.{sized}

-- up to k these are the sizes of the value
pub record IsCounted (k depth nodes : ℕ) (v : Data) : Type 0 where
  pub depths : min k depth ≡ min k (depth_of v)
  pub counts : min k nodes ≡ min k (nodes_of v)

-- up to k these are the sizes of the values beside each other
record AreCounted (k depth nodes : ℕ) (vs : Items) : Type 0 where
  depths : min k depth ≡ min k (greatest vs)
  counts : min k nodes ≡ min k (nodes_in vs)

of_start : (k : ℕ) (D N : AidlType → ℕ) (o : Option Const) (t : AidlType) (v : Data) (P : Type 0) → (P → IsCounted k (D t) (N t) v)
    → MatchOption o P (λ c. v ≡ const_value c) → IsCounted k (initial_size const_depth D o t) (initial_size const_nodes N o t) v
of_start k D N (Some c) t v P law same =
    let size = sized c in
    subst (λ w. IsCounted k (const_depth c) (const_nodes c) w) (sym same)
    (record { depths = ap (λ n. min k n) (sym size.depth); counts = ap (λ n. min k n) (sym size.nodes) })
of_start k D N None t v P law h = law h

module _ (k : ℕ) (g h : Field → ℕ) (v : Data) where
  of_simple : (f : Form) → simple_zero f ≡ Some v → IsCounted k (form_depth g f) (form_nodes h f) v
  of_simple form.truth e =
      let same : truth false ≡ v = cc in
      let leaf : IsCounted k 0 1 (truth false) = record { depths = refl; counts = refl } in
      subst (λ x. IsCounted k 0 1 x) same leaf
  of_simple form.byte e =
      let same : number (pos 0) ≡ v = cc in
      let leaf : IsCounted k 0 1 (number (pos 0)) = record { depths = refl; counts = refl } in
      subst (λ x. IsCounted k 0 1 x) same leaf
  of_simple form.char e =
      let same : number (pos 0) ≡ v = cc in
      let leaf : IsCounted k 0 1 (number (pos 0)) = record { depths = refl; counts = refl } in
      subst (λ x. IsCounted k 0 1 x) same leaf
  of_simple form.int e =
      let same : number (pos 0) ≡ v = cc in
      let leaf : IsCounted k 0 1 (number (pos 0)) = record { depths = refl; counts = refl } in
      subst (λ x. IsCounted k 0 1 x) same leaf
  of_simple form.long e =
      let same : number (pos 0) ≡ v = cc in
      let leaf : IsCounted k 0 1 (number (pos 0)) = record { depths = refl; counts = refl } in
      subst (λ x. IsCounted k 0 1 x) same leaf
  of_simple form.text e =
      let same : text [] ≡ v = cc in
      let leaf : IsCounted k 0 1 (text []) = record { depths = refl; counts = refl } in
      subst (λ x. IsCounted k 0 1 x) same leaf
  of_simple (form.parcelable fs) e = cc
  of_simple (form.union fs) e = cc
  of_simple form.nothing e = cc

-- one level above parts
above : (k depth nodes : ℕ) (vs : Items) → AreCounted k depth nodes vs → IsCounted (suc k) (suc depth) (suc nodes) (rec vs)
above k depth nodes vs parts = let d = parts.depths in let n = parts.counts in record { depths = omega arith; counts = omega arith }

above_one : (k depth nodes j : ℕ) (v : Data) → IsCounted k depth nodes v → IsCounted (suc k) (suc depth) (suc nodes) (alt j v)
above_one k depth nodes j v part = let d = part.depths in let n = part.counts in record { depths = omega arith; counts = omega arith }

module _ (S : List Decl) where
  single : (k : ℕ) (D N : AidlType → ℕ) (t : AidlType) (v : Data) → t.nullable ≡ false → is_one t.shape ≡ true
      → IsCounted k (form_depth (λ f. field_size const_depth D f) (form_of S t.base)) (form_nodes (λ f. field_size const_nodes N f) (form_of S t.base)) v
      → IsCounted k (depth_by S D t) (nodes_by S N t) v
  single k D N t v e one h = rw (e, one) h

  simple : (k : ℕ) (D N : AidlType → ℕ) (t : AidlType) (v : Data) → t.nullable ≡ false → is_one t.shape ≡ true → simple_zero (form_of S t.base) ≡ Some v
      → IsCounted k (depth_by S D t) (nodes_by S N t) v
  simple k D N t v e one h =
      single k D N t v e one (of_simple k (λ f. field_size const_depth D f) (λ f. field_size const_nodes N f) v (form_of S t.base) h)

  mutual
    unfolding depth_within nodes_within

    pub counted : (k : ℕ) (t : AidlType) (v : Data) → IsZero S t v → IsCounted k (depth_within k S t) (nodes_within k S t) v
    counted zero t v h = record { depths = omega arith; counts = omega arith }
    counted (suc k) t null h = rw h (record { depths = refl; counts = refl })
    counted (suc k) t (truth b) h = simple (suc k) (λ u. depth_within k S u) (λ u. nodes_within k S u) t (truth b) h.0 h.1 h.2
    counted (suc k) t (number n) h = simple (suc k) (λ u. depth_within k S u) (λ u. nodes_within k S u) t (number n) h.0 h.1 h.2
    counted (suc k) t (text x) h = simple (suc k) (λ u. depth_within k S u) (λ u. nodes_within k S u) t (text x) h.0 h.1 h.2
    counted (suc k) t (seq vs) h = rw (h.0, h.1, h.2) (record { depths = refl; counts = refl })
    counted (suc k) t (rec vs) h =
        single (suc k) (λ u. depth_within k S u) (λ u. nodes_within k S u) t (rec vs) h.0 h.1
        (rw h.3 (above k (greatest_of (map (λ f. field_size const_depth (λ u. depth_within k S u) f) h.2)) (sum (map (λ f. field_size const_nodes (λ u. nodes_within k S u) f) h.2)) vs
        (all_counted k h.2 vs h.4)))
    counted (suc k) t (alt j v) h =
        single (suc k) (λ u. depth_within k S u) (λ u. nodes_within k S u) t (alt j v) h.0 h.1
        (rw h.4 (above_one k (field_size const_depth (λ u. depth_within k S u) h.2) (field_size const_nodes (λ u. nodes_within k S u) h.2) j v
        (of_start k (λ u. depth_within k S u) (λ u. nodes_within k S u) h.2.initial h.2.ty v (IsZero S h.2.ty v) (λ z. counted k h.2.ty v z) h.6)))

    all_counted : (k : ℕ) (fs : List Field) (vs : Items) → AreInitial S fs vs
        → AreCounted k (greatest_of (map (λ f. field_size const_depth (λ u. depth_within k S u) f) fs)) (sum (map (λ f. field_size const_nodes (λ u. nodes_within k S u) f) fs)) vs
    all_counted k [] none h = record { depths = refl; counts = refl }
    all_counted k [] (item v vs) h = elim h [ ]
    all_counted k (f ∷ fs) none h = elim h [ ]
    all_counted k (f ∷ fs) (item v vs) h =
        let first = of_start k (λ u. depth_within k S u) (λ u. nodes_within k S u) f.initial f.ty v (IsZero S f.ty v) (λ z. counted k f.ty v z) h.0 in
        let others = all_counted k fs vs h.1 in
        let d = first.depths in
        let n = first.counts in
        let ds = others.depths in
        let ns = others.counts in
        record {
          depths = omega arith;
          counts = omega (arith, sum_by-cons (λ m. m) (field_size const_nodes (λ u. nodes_within k S u) f) (map (λ g. field_size const_nodes (λ u. nodes_within k S u) g) fs));
        }

small_test : (depth nodes : ℕ) → ((nat_le depth 32 && nat_le nodes 512) ≡ true) ↔ ((depth ≤ 32) × (nodes ≤ 512))
small_test depth nodes = (λ h. both_small (both (nat_le depth 32) (nat_le nodes 512) h), λ h. small_both (nat_le depth 32) (nat_le nodes 512) (at_most depth 32 h.0) (at_most nodes 512 h.1))
  where
    within : (m n : ℕ) → nat_le m n ≡ true → m ≤ n
    within m n h = grind (arith, nat_tests)

    at_most : (m n : ℕ) → m ≤ n → nat_le m n ≡ true
    at_most m n h = grind (arith, nat_tests)

    both_small : (nat_le depth 32 ≡ true) × (nat_le nodes 512 ≡ true) → (depth ≤ 32) × (nodes ≤ 512)
    both_small h = (within depth 32 h.0, within nodes 512 h.1)

    small_both : (a b : Bool) → a ≡ true → b ≡ true → (a && b) ≡ true
    small_both a b e f = rw (e, f) refl

-- E23 counts as it would the default itself.
pub small_counted : (S : List Decl) (t : AidlType) (v : Data) → IsZero S t v → (has_small_default S t ≡ true) ↔ IsSmall v
small_counted S t v zero_of =
    let depth = (counted S 33 t v zero_of).depths in
    let nodes = (counted S 513 t v zero_of).counts in
    let test = small_test (min 33 (depth_within 33 S t)) (min 513 (nodes_within 513 S t)) in
    (λ h. let two = test.0 h in let d = two.0 in let n = two.1 in (omega arith, omega arith), λ h. let d = h.0 in let n = h.1 in test.1 (omega arith, omega arith))
