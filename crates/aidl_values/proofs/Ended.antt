-- What reaches no cycle of containment has a default: no chain from it meets a declaration twice, so chains have an end.
use Rattle.std.proofs.Common.{◌≡◌, ℕ, zero, suc, ◌<◌, ◌⊎◌, inl, inr, Bool, true, false, not, ◌&&◌, ◌||◌, eqb, List, [], ◌∷◌, length, Option, Some, None, slice_get, refl, sym, ◌∙◌, subst, arith, true≢false}
use Rattle.std.specs.Prelude.{pos, Contains, MatchOption}
use Rattle.std.specs.List.{list_all, list_any, flat_map, AllByRecursion, IsDistinct}
use Rattle.std.proofs.lemmas.Bool.Decides.{nat_tests}
use Rattle.std.proofs.lemmas.List.Elements.{Contains-append_left, Contains-append_right}
use Rattle.std.proofs.lemmas.Map.Keys.{IsDistinct-cons}
use Rattle.std.proofs.lemmas.Map.Steps.{length-le_from_distinct_below}
use Rattle.std.proofs.lemmas.Option.{slice_get_within}
use Rattle.aidl_base.specs.declared.constant.Const.{Const}
use Rattle.aidl_base.proofs.lemmas.Tests.{both, neither}
use Rattle.aidl_schema.specs.declared.schema.Decl.{Decl}
use Rattle.aidl_schema.specs.declared.schema.Field.{Field}
use Rattle.aidl_schema.specs.declared.schema.Kind.TheVariants.{Union}
use Rattle.aidl_schema.specs.declared.schema.Base.{Base}
use Rattle.aidl_schema.specs.declared.schema.Base.TheVariants as base
use Rattle.aidl_schema.specs.declared.schema.AidlType.{AidlType}
use Rattle.aidl_schema.specs.Containment.{fields_of, is_composite, contained_by, contained_by_decl, contained, IsChain, Reaches, holds_itself}
use Rattle.aidl_schema.specs.Methods.{is_field_type, is_whole_type, may_be_on_heap}
use Rattle.aidl_schema.specs.Types.{Form, form_of, form_of_decl, is_one, is_type, is_meant}
use Rattle.aidl_schema.specs.Types as form
use Rattle.aidl_schema.specs.Valid.{one_of}
use Rattle.aidl_schema.proofs.lemmas.Chains.{reaches}
use Rattle.aidl_values.specs.Data.{Data, null, truth, number, text, seq, rec, alt, Items, none, item}
use Rattle.aidl_values.specs.Default.{IsZero, AreInitial, const_value}
use Rattle.aidl_values.specs.Ends.{has_first, HaveFieldTypes, ReachesNoCycle}
use Rattle.aidl_values.proofs.Defaults.{kind_parcelable, kind_union}

either : (b c : Bool) → (b || c) ≡ true → (b ≡ true) ⊎ (c ≡ true)
either true c h = inl refl
either false c h = inr h

none_of : (m : ℕ) (xs : List ℕ) → list_any (eqb m) xs ≡ false → AllByRecursion (λ y. eqb m y ≡ false) xs
none_of m [] h = tt
none_of m (x ∷ xs) h = let two = neither (eqb m x) (list_any (eqb m) xs) h in (two.0, none_of m xs two.1)

refuted : (b : Bool) → (b ≡ true → ⊥) → b ≡ false
refuted true not_so = absurd (not_so refl)
refuted false not_so = refl

module _ (S : List Decl) where
  -- one step more in front
  further : (m j n : ℕ) → Contains (contained S m) j → Reaches S j n → Reaches S m n
  further m j n here chain = (j ∷ chain.0, (here, chain.1))

  -- a chain leads to each declaration on its way
  on_the_way : (m n q : ℕ) (js : List ℕ) → IsChain S m js n → list_any (eqb q) js ≡ true → Reaches S m q
  on_the_way m n q [] chain h = cc
  on_the_way m n q (j ∷ js) chain h = elim (either (eqb q j) (list_any (eqb q) js) h) [
    | inl same ↦ let is : j ≡ q = grind (arith, nat_tests) in ([], subst (λ x. Contains (contained S m) x) is chain.0)
    | inr later ↦ further m j q chain.0 (on_the_way j n q js chain.1 later)
  ]

  no_cycle_at : (m : ℕ) → ReachesNoCycle S m → Reaches S m m → ⊥
  no_cycle_at m free chain = true≢false (sym ((reaches S m m).1 chain) ∙ free m (inl refl))

  -- what is contained reaches no cycle either
  next_none : (m j : ℕ) → ReachesNoCycle S m → Contains (contained S m) j → (q : ℕ) → (j ≡ q) ⊎ Reaches S j q → holds_itself S q ≡ false
  next_none m j free here q (inl same) = free q (inr ([], subst (λ x. Contains (contained S m) x) same here))
  next_none m j free here q (inr chain) = free q (inr (further m j q here chain))

  distinct : (m n : ℕ) (js : List ℕ) → ReachesNoCycle S m → IsChain S m js n → IsDistinct eqb (m ∷ js)
  unfolding IsDistinct
  distinct m n [] free chain = (tt, tt)
  distinct m n (j ∷ js) free chain =
      IsDistinct-cons eqb m (j ∷ js)
      (none_of m (j ∷ js) (refuted (list_any (eqb m) (j ∷ js)) (λ h. no_cycle_at m free (on_the_way m n m (j ∷ js) chain h))))
      (distinct j n js (next_none m j free chain.0) chain.1)

  -- what contains something is a declaration
  container_at : (m : ℕ) (o : Option Decl) (j : ℕ) → slice_get S m ≡ o → Contains (contained_by_decl S o) j → m < length S
  container_at m None j e h = absurd (omega (arith, h.1))
  container_at m (Some d) j e h = slice_get_within S m d e

  declared : (m n : ℕ) (js : List ℕ) → IsChain S m js n → m < length S
  declared m n [] chain = container_at m (slice_get S m) n refl chain
  declared m n (j ∷ js) chain = container_at m (slice_get S m) j refl chain.0

  all_declared : (q m n : ℕ) (js : List ℕ) → IsChain S m js n → list_any (eqb q) (m ∷ js) ≡ true → q < length S
  all_declared q m n [] chain h = elim (either (eqb q m) false h) [
    | inl same ↦ let is : m ≡ q = grind (arith, nat_tests) in subst (λ x. x < length S) is (declared m n [] chain)
    | inr free ↦ absurd (true≢false (sym free))
  ]
  all_declared q m n (j ∷ js) chain h = elim (either (eqb q m) (list_any (eqb q) (j ∷ js)) h) [
    | inl same ↦ let is : m ≡ q = grind (arith, nat_tests) in subst (λ x. x < length S) is (declared m n (j ∷ js) chain)
    | inr later ↦ all_declared q j n js chain.1 later
  ]

  -- chains from it have fewer steps than this
  abbrev Ends : ℕ → ℕ → Type 0
  Ends k m = (js : List ℕ) (n : ℕ) → IsChain S m js n → length js < k

  ends : (m : ℕ) → ReachesNoCycle S m → Ends (length S) m
  ends m free js n chain =
      let few = length-le_from_distinct_below (m ∷ js) (length S) (distinct m n js free chain) (λ q h. all_declared q m n js chain h) in
      omega arith

  next_ends : (k m j : ℕ) → Ends (suc k) m → Contains (contained S m) j → Ends k j
  next_ends k m j end here js n chain = let fewer = end (j ∷ js) n (here, chain) in omega arith

  none_left : (m j : ℕ) → Ends zero m → Contains (contained S m) j → ⊥
  none_left m j end here = omega (arith, end [] j here)

  -- a default of the type
  abbrev Has : AidlType → Type 0
  Has t = (v : Data) × IsZero S t v

  -- what is no parcelable or union has its default at once
  of_form : (t : AidlType) (f : Form) → form_of S t.base ≡ f → t.nullable ≡ false → is_one t.shape ≡ true → is_meant f ≡ true
      → (is_composite f ≡ true → Has t) → Has t
  of_form t form.truth is e one meant parts = (truth false, (e, one, rw is refl))
  of_form t form.byte is e one meant parts = (number (pos 0), (e, one, rw is refl))
  of_form t form.char is e one meant parts = (number (pos 0), (e, one, rw is refl))
  of_form t form.int is e one meant parts = (number (pos 0), (e, one, rw is refl))
  of_form t form.long is e one meant parts = (number (pos 0), (e, one, rw is refl))
  of_form t form.text is e one meant parts = (text [], (e, one, rw is refl))
  of_form t (form.parcelable fs) is e one meant parts = parts refl
  of_form t (form.union fs) is e one meant parts = parts refl
  of_form t form.nothing is e one meant parts = cc

  -- a parcelable or union has a number
  named : (b : Base) → is_composite (form_of S b) ≡ true → (j : ℕ) × (b ≡ base.Named j)
  named base.Boolean h = cc
  named base.Byte h = cc
  named base.Char h = cc
  named base.Int h = cc
  named base.Long h = cc
  named base.Text h = cc
  named (base.Named j) h = (j, refl)

  -- a type of one value that isn't null, which this declaration means
  record IsOne (t : AidlType) (j : ℕ) : Type 0 where
    base_is : t.base ≡ base.Named j
    there : t.nullable ≡ false
    one : is_one t.shape ≡ true
    meant : is_meant (form_of S t.base) ≡ true

  not_on_heap : (heap null_able rest : Bool) → (not heap || (null_able && rest)) ≡ true → null_able ≡ false → not heap ≡ true
  not_on_heap false null_able rest h e = refl
  not_on_heap true true rest h e = cc
  not_on_heap true false rest h e = cc

  contains_it : (f : Field) (j : ℕ) → f.ty.base ≡ base.Named j → is_one f.ty.shape ≡ true → not f.ty.heap ≡ true → is_composite (form_of S f.ty.base) ≡ true
      → Contains (contained_by S f) j
  contains_it f j is one off comp = rw (one, off, comp, is) (0, omega arith, refl)

  -- Of the declaration n, whose parts have their defaults.
  module _ (n : ℕ) (law : (j : ℕ) → Contains (contained S n) j → (t : AidlType) → IsOne t j → Has t) where
    of_flags : (f : Field) (null_able one : Bool) → f.ty.nullable ≡ null_able → is_one f.ty.shape ≡ one → is_field_type S f ≡ true
        → ((j : ℕ) → Contains (contained_by S f) j → Contains (contained S n) j) → Has f.ty
    of_flags f true one e is h inside = (null, e)
    of_flags f false false e is h inside = (seq none, (e, is, refl))
    of_flags f false true e is h inside =
        let two = both (is_whole_type S f.ty) (not f.ty.heap || may_be_on_heap S f.ty) h in
        let meant = (both _ _ (both _ _ two.0).0).0 in
        let off = not_on_heap f.ty.heap f.ty.nullable (is_one f.ty.shape && is_composite (form_of S f.ty.base)) two.1 e in
        of_form f.ty (form_of S f.ty.base) refl e is meant (λ comp.
        let j = named f.ty.base comp in
        law j.0 (inside j.0 (contains_it f j.0 j.1 is off comp)) f.ty (record { base_is = j.1; there = e; one = is; meant = meant }))

    of_initial : (f : Field) (o : Option Const) → Has f.ty → (v : Data) × MatchOption o (IsZero S f.ty v) (λ c. v ≡ const_value c)
    of_initial f (Some c) zero_of = (const_value c, refl)
    of_initial f None zero_of = zero_of

    start : (f : Field) → is_field_type S f ≡ true → ((j : ℕ) → Contains (contained_by S f) j → Contains (contained S n) j)
        → (v : Data) × MatchOption f.initial (IsZero S f.ty v) (λ c. v ≡ const_value c)
    start f h inside = of_initial f f.initial (of_flags f f.ty.nullable (is_one f.ty.shape) refl refl h inside)

    starts : (fs : List Field) → list_all (λ f. is_field_type S f) fs ≡ true → ((j : ℕ) → Contains (flat_map (λ f. contained_by S f) fs) j → Contains (contained S n) j)
        → (vs : Items) × AreInitial S fs vs
    starts [] h inside = (none, tt)
    starts (f ∷ fs) h inside =
        let two = both (is_field_type S f) (list_all (λ g. is_field_type S g) fs) h in
        let first = start f two.0 (λ j here. inside j (Contains-append_left (contained_by S f) (flat_map (λ g. contained_by S g) fs) j here)) in
        let others = starts fs two.1 (λ j here. inside j (Contains-append_right (contained_by S f) (flat_map (λ g. contained_by S g) fs) j here)) in
        (item first.0 others.0, (first.1, others.1))

    record AreParts (fs : List Field) : Type 0 where
      whole : list_all (λ f. is_field_type S f) fs ≡ true
      inside : (j : ℕ) → Contains (flat_map (λ f. contained_by S f) fs) j → Contains (contained S n) j

    module _ (types : HaveFieldTypes S) where
      of_decl : (d : Decl) → slice_get S n ≡ Some d → AreParts (fields_of d.kind)
      of_decl d is = record { whole = (types n d is).0; inside = λ j here. rw is here }

      of_parcelable : (o : Option Decl) (fs : List Field) → slice_get S n ≡ o → form_of_decl o ≡ form.parcelable fs → AreParts fs
      of_parcelable None fs is e = cc
      of_parcelable (Some d) fs is e = subst (λ k. AreParts (fields_of k)) (kind_parcelable d.kind fs e) (of_decl d is)

      of_union : (o : Option Decl) (fs : List Field) → slice_get S n ≡ o → form_of_decl o ≡ form.union fs → AreParts fs × (has_first (Union fs) ≡ true)
      of_union None fs is e = cc
      of_union (Some d) fs is e = subst (λ k. AreParts (fields_of k) × (has_first k ≡ true)) (kind_union d.kind fs e) (of_decl d is, (types n d is).1)

      of_alternative : (t : AidlType) (fs : List Field) → IsOne t n → form_of S t.base ≡ form.union fs → AreParts fs × (has_first (Union fs) ≡ true) → Has t
      of_alternative t [] one is parts = cc
      of_alternative t (f ∷ fs) one is parts =
          let two = both (is_field_type S f) (list_all (λ g. is_field_type S g) fs) parts.0.whole in
          let first = start f two.0 (λ j here. parts.0.inside j (Contains-append_left (contained_by S f) (flat_map (λ g. contained_by S g) fs) j here)) in
          (alt 0 first.0, (one.there, one.one, f, fs, is, refl, first.1))

      of_declared : (t : AidlType) (f : Form) → IsOne t n → form_of S t.base ≡ f → is_composite f ≡ true → Has t
      of_declared t (form.parcelable fs) one is h =
          let e : form_of_decl (slice_get S n) ≡ form.parcelable fs = rw one.base_is at is in
          let parts = of_parcelable (slice_get S n) fs refl e in
          let all = starts fs parts.whole parts.inside in
          (rec all.0, (one.there, one.one, fs, is, all.1))
      of_declared t (form.union fs) one is h =
          let e : form_of_decl (slice_get S n) ≡ form.union fs = rw one.base_is at is in
          of_alternative t fs one is (of_union (slice_get S n) fs refl e)
      of_declared t form.truth one is h = cc
      of_declared t form.byte one is h = cc
      of_declared t form.char one is h = cc
      of_declared t form.int one is h = cc
      of_declared t form.long one is h = cc
      of_declared t form.text one is h = cc
      of_declared t form.nothing one is h = cc

      of_one : (t : AidlType) → IsOne t n → Has t
      of_one t one = of_form t (form_of S t.base) refl one.there one.one one.meant (λ comp. of_declared t (form_of S t.base) one refl comp)

  module _ (types : HaveFieldTypes S) where
    by_steps : (k n : ℕ) → Ends k n → (t : AidlType) → IsOne t n → Has t
    by_steps zero n end t one = of_one n (λ j here u is. absurd (none_left n j end here)) types t one
    by_steps (suc k) n end t one = of_one n (λ j here u is. by_steps k j (next_ends k n j end here) u is) types t one

    pub there : (n : ℕ) → is_type S (one_of n) ≡ true → ReachesNoCycle S n → (v : Data) × IsZero S (one_of n) v
    there n is free = by_steps (length S) n (ends n free) (one_of n) (record { base_is = refl; there = refl; one = refl; meant = (both _ _ is).0 })
