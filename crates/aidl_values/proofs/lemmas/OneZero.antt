-- A type has one default.
use Rattle.std.proofs.Common.{◌≡◌, ℕ, zero, suc, ◌+◌, ◌≤◌, true, false, List, [], ◌∷◌, Option, Some, None, refl, sym, ap, ◌∙◌, arith}
use Rattle.std.specs.Prelude.{MatchOption}
use Rattle.aidl_base.specs.declared.constant.Const.{Const}
use Rattle.aidl_schema.specs.declared.schema.Decl.{Decl}
use Rattle.aidl_schema.specs.declared.schema.Field.{Field}
use Rattle.aidl_schema.specs.declared.schema.AidlType.{AidlType}
use Rattle.aidl_schema.specs.Types.{Form, form_of, is_one}
use Rattle.aidl_schema.specs.Types as form
use Rattle.aidl_values.specs.Data.{Data, null, truth, number, text, seq, rec, alt, Items, none, item, depth_of, greatest}
use Rattle.aidl_values.specs.Default.{IsZero, AreInitial, const_value, simple_zero, initial_or, initial_by, initials_by, zero_of_form, zero_by, zero_within}

by_initial : (o : Option Const) (v w : Data) (P : Type 0) → (P → v ≡ w) → MatchOption o P (λ c. v ≡ const_value c) → v ≡ initial_or o w
by_initial (Some c) v w P same h = h
by_initial None v w P same h = same h

of_simple : (zero_value : AidlType → Data) (f : Form) (v : Data) → simple_zero f ≡ Some v → v ≡ zero_of_form zero_value f
of_simple z form.truth v e = cc
of_simple z form.byte v e = cc
of_simple z form.char v e = cc
of_simple z form.int v e = cc
of_simple z form.long v e = cc
of_simple z form.text v e = cc
of_simple z (form.parcelable fs) v e = cc
of_simple z (form.union fs) v e = cc
of_simple z form.nothing v e = cc

module _ (S : List Decl) where
  one_by : (zero_value : AidlType → Data) (t : AidlType) (v : Data) → t.nullable ≡ false → is_one t.shape ≡ true → v ≡ zero_of_form zero_value (form_of S t.base) → v ≡ zero_by S zero_value t
  one_by z t v e one same = same ∙ sym (rw (e, one) refl)

  simple : (n : ℕ) (t : AidlType) (v : Data) → t.nullable ≡ false → is_one t.shape ≡ true → simple_zero (form_of S t.base) ≡ Some v → v ≡ zero_within n S t
  unfolding zero_within
  simple zero t v e one h = one_by (λ u. null) t v e one (of_simple (λ u. null) (form_of S t.base) v h)
  simple (suc n) t v e one h = one_by (λ u. zero_within n S u) t v e one (of_simple (λ u. zero_within n S u) (form_of S t.base) v h)

  null_zero : (n : ℕ) (t : AidlType) → t.nullable ≡ true → null ≡ zero_within n S t
  unfolding zero_within
  null_zero zero t e = sym (rw e refl)
  null_zero (suc n) t e = sym (rw e refl)

  mutual
    unfolding zero_within

    pub one_zero : (n : ℕ) (t : AidlType) (v : Data) → IsZero S t v → depth_of v ≤ n → v ≡ zero_within n S t
    one_zero n t null h le = null_zero n t h
    one_zero n t (truth b) h le = simple n t (truth b) h.0 h.1 h.2
    one_zero n t (number m) h le = simple n t (number m) h.0 h.1 h.2
    one_zero n t (text x) h le = simple n t (text x) h.0 h.1 h.2
    one_zero zero t (seq vs) h le = absurd (omega arith)
    one_zero zero t (rec vs) h le = absurd (omega arith)
    one_zero zero t (alt k v) h le = absurd (omega arith)
    one_zero (suc n) t (seq vs) h le = ap seq h.2 ∙ sym (rw (h.0, h.1) refl)
    one_zero (suc n) t (rec vs) h le = one_by (λ u. zero_within n S u) t (rec vs) h.0 h.1 (ap rec (same_initials n h.2 vs h.4 (omega arith)) ∙ sym (rw h.3 refl))
    one_zero (suc n) t (alt k v) h le = one_by (λ u. zero_within n S u) t (alt k v) h.0 h.1
        (ap (λ j. alt j v) h.5 ∙ ap (alt 0) (by_initial h.2.initial v (zero_within n S h.2.ty) (IsZero S h.2.ty v) (λ z. one_zero n h.2.ty v z (omega arith)) h.6) ∙ sym (rw h.4 refl))

    pub same_initials : (n : ℕ) (fs : List Field) (vs : Items) → AreInitial S fs vs → greatest vs ≤ n → vs ≡ initials_by (λ u. zero_within n S u) fs
    same_initials n [] none h le = refl
    same_initials n [] (item v vs) h le = elim h [ ]
    same_initials n (f ∷ fs) none h le = elim h [ ]
    same_initials n (f ∷ fs) (item v vs) h le =
        ap (λ w. item w vs) (by_initial f.initial v (zero_within n S f.ty) (IsZero S f.ty v) (λ z. one_zero n f.ty v z (omega arith)) h.0)
        ∙ ap (item (initial_by (λ u. zero_within n S u) f)) (same_initials n fs vs h.1 (omega arith))

  -- whatever their depth
  pub same_zero : (t : AidlType) (v w : Data) → IsZero S t v → IsZero S t w → v ≡ w
  same_zero t v w h k = one_zero (depth_of v + depth_of w) t v h (omega arith) ∙ sym (one_zero (depth_of v + depth_of w) t w k (omega arith))
