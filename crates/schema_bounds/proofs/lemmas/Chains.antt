-- Chains of containment are paths along the rows.
use Rattle.std.proofs.Common.{◌≡◌, ℕ, zero, suc, ◌<◌, ◌⊎◌, inl, inr, ◌↔◌, IsTrue, Bool, true, false, not, ◌&&◌, ◌||◌, List, [], ◌∷◌, map, length, Option, Some, None, slice_get, refl, sym, ap, ◌∙◌, subst, arith, true≢false}
use Rattle.std.specs.Prelude.{Contains, option_map, if◌then◌else◌}
use Rattle.std.specs.List.{flat_map, list_any, range_with_len}
use Rattle.std.proofs.lemmas.List.{length-map}
use Rattle.std.proofs.lemmas.List.Folds.{Any-from_list_any, list_any-from_Any}
use Rattle.std.proofs.lemmas.Option.{slice_get-map, slice_get_within}
use Rattle.aidl_base.proofs.lemmas.Tests.{both}
use Rattle.aidl_schema.specs.declared.schema.Decl.{Decl}
use Rattle.aidl_schema.specs.declared.schema.Field.{Field}
use Rattle.aidl_schema.specs.declared.schema.Base.{Base}
use Rattle.aidl_schema.specs.declared.schema.Base.TheVariants as base
use Rattle.aidl_schema.specs.Containment.{fields_of, is_composite, number_of, contained_by, contained_by_decl, contained, IsChain, reaches_within, holds_itself}
use Rattle.aidl_schema.specs.Types.{form_of, form_of_decl, is_one}
use Rattle.aidl_schema.specs.Sizes.{has_small_default}
use Rattle.aidl_schema.specs.Valid.{one_of, is_bounded}
use Rattle.aidl_schema.proofs.lemmas.Chains.{reaches}
use Rattle.graph_cycles.specs.Paths.{or_empty, IsPath, Leads, TellsCycles, flag, targets}
use Rattle.schema_bounds.specs.declared.bound.Bound.TheVariants.{Within, TooLarge}
use Rattle.schema_bounds.specs.Bounds.{ReachesCycle, reaches_cycle, bound_by, bound}
use Rattle.schema_bounds.specs.steps.Hubs.{LeadsToCycle, LeadInside}
use Rattle.schema_bounds.proofs.Lists.{of_either, all_below, same_test}

-- what a declaration contains is a declaration
module _ (S : List Decl) (n : ℕ) where
  of_number : (k : ℕ) (o : Option Decl) → slice_get S k ≡ o → is_composite (form_of_decl o) ≡ true → Contains (k ∷ []) n → n < length S
  of_number k None e c h = cc
  of_number k (Some d) e c (zero, lt, is) = let within = slice_get_within S k d e in omega arith
  of_number k (Some d) e c (suc i, lt, is) = absurd (omega arith)

  of_base : (b : Base) → is_composite (form_of S b) ≡ true → Contains (number_of b) n → n < length S
  of_base (base.Named k) c h = of_number k (slice_get S k) refl c h
  of_base base.Boolean c h = absurd (omega (arith, h.1))
  of_base base.Byte c h = absurd (omega (arith, h.1))
  of_base base.Char c h = absurd (omega (arith, h.1))
  of_base base.Int c h = absurd (omega (arith, h.1))
  of_base base.Long c h = absurd (omega (arith, h.1))
  of_base base.Text c h = absurd (omega (arith, h.1))

  of_field : (f : Field) (b : Bool) → (is_one f.ty.shape && (not f.ty.heap && is_composite (form_of S f.ty.base))) ≡ b → Contains (if b then number_of f.ty.base else []) n → n < length S
  of_field f false e h = absurd (omega (arith, h.1))
  of_field f true e h =
      of_base f.ty.base (both (not f.ty.heap) (is_composite (form_of S f.ty.base)) (both (is_one f.ty.shape) (not f.ty.heap && is_composite (form_of S f.ty.base)) e).1).1 h

  of_fields : (fs : List Field) → Contains (flat_map (λ f. contained_by S f) fs) n → n < length S
  of_fields [] h = absurd (omega (arith, h.1))
  of_fields (f ∷ fs) h =
      elim (of_either (contained_by S f) (flat_map (λ g. contained_by S g) fs) n h) [
        | inl here ↦ of_field f (is_one f.ty.shape && (not f.ty.heap && is_composite (form_of S f.ty.base))) refl here
        | inr later ↦ of_fields fs later
      ]

  of_decl : (o : Option Decl) → Contains (contained_by_decl S o) n → n < length S
  of_decl None h = absurd (omega (arith, h.1))
  of_decl (Some d) h = of_fields (fields_of d.kind) h

-- what contains something is a declaration
container : (S : List Decl) (m n : ℕ) (o : Option Decl) → slice_get S m ≡ o → Contains (contained_by_decl S o) n → m < length S
container S m n None e h = absurd (omega (arith, h.1))
container S m n (Some d) e h = slice_get_within S m d e

first_container : (S : List Decl) (m n : ℕ) (js : List ℕ) → IsChain S m js n → m < length S
first_container S m n [] h = container S m n (slice_get S m) refl h
first_container S m n (j ∷ js) h = container S m j (slice_get S m) refl h.0

row_of : (S : List Decl) (o : Option Decl) → or_empty (option_map (λ d. contained_by_decl S (Some d)) o) ≡ contained_by_decl S o
row_of S None = refl
row_of S (Some d) = refl

either : (a b : Bool) → (a || b) ≡ true → (a ≡ true) ⊎ (b ≡ true)
either true b h = inl refl
either false b h = inr h

or_left : (a b : Bool) → a ≡ true → (a || b) ≡ true
or_left a b e = rw e refl

or_right : (a b : Bool) → b ≡ true → (a || b) ≡ true
or_right true b e = refl
or_right false b e = e

and_so : (a b : Bool) → a ≡ true → b ≡ true → (a && b) ≡ true
and_so a b e f = rw (e, f) refl

is_within : (b c : Bool) → b ≡ false → c ≡ true → (not b && c) ≡ true
is_within b c e f = rw (e, f) refl

-- the test of a declaration that reaches a cycle
module _ (S : List Decl) where
  reached : (n : ℕ) → list_any (λ m. reaches_within (length S) S n m && holds_itself S m) (range_with_len 0 (length S)) ≡ true → ReachesCycle S n
  reached n h =
      let one = Any-from_list_any (λ m. reaches_within (length S) S n m && holds_itself S m) (range_with_len 0 (length S)) h in
      let two = both (reaches_within (length S) S n one.1) (holds_itself S one.1) one.4 in
      (one.1, inr ((reaches S n one.1).0 two.0), two.1)

  found : (n : ℕ) → ReachesCycle S n → reaches_cycle S n ≡ true
  found n (m, inl same, h) =
      or_left (holds_itself S n) (list_any (λ k. reaches_within (length S) S n k && holds_itself S k) (range_with_len 0 (length S))) (subst (λ k. holds_itself S k ≡ true) (sym same) h)
  found n (m, inr way, h) =
      let back = (reaches S m m).0 h in
      let there = all_below (length S) m (first_container S m m back.0 back.1) in
      or_right (holds_itself S n) (list_any (λ k. reaches_within (length S) S n k && holds_itself S k) (range_with_len 0 (length S)))
      (list_any-from_Any (λ k. reaches_within (length S) S n k && holds_itself S k) (range_with_len 0 (length S))
      (there.0, m, there.1, there.2, and_so (reaches_within (length S) S n m) (holds_itself S m) ((reaches S n m).1 way) h))

  pub told : (n : ℕ) → IsTrue (reaches_cycle S n) ↔ ReachesCycle S n
  told n = (
    λ h. elim (either (holds_itself S n) (list_any (λ k. reaches_within (length S) S n k && holds_itself S k) (range_with_len 0 (length S))) h) [ inl here ↦ (n, inl refl, here) | inr there ↦ reached n there ],
    found n,
  )

  -- what is too large reaches no cycle and has no small default
  too_large_by : (holds reach small : Bool) → (holds ≡ true → reach ≡ true) → bound_by holds reach small ≡ TooLarge → (reach ≡ false) × (small ≡ false)
  too_large_by true reach small so e = cc
  too_large_by false true small so e = cc
  too_large_by false false true so e = cc
  too_large_by false false false so e = (refl, refl)

  by_too_large : (holds reach small : Bool) → (holds ≡ true → reach ≡ true) → reach ≡ false → small ≡ false → bound_by holds reach small ≡ TooLarge
  by_too_large true reach small so none large = absurd (true≢false (sym (so refl) ∙ none))
  by_too_large false reach small so none large = rw (none, large) refl

  holds_reaches : (n : ℕ) → holds_itself S n ≡ true → reaches_cycle S n ≡ true
  holds_reaches n h = or_left (holds_itself S n) (list_any (λ m. reaches_within (length S) S n m && holds_itself S m) (range_with_len 0 (length S))) h

  not_reached : (n : ℕ) (b : Bool) → reaches_cycle S n ≡ b → (ReachesCycle S n → ⊥) → b ≡ false
  not_reached n true e none = absurd (none ((told n).0 e))
  not_reached n false e none = refl

  pub too_large : (n : ℕ) → (bound S n ≡ TooLarge) ↔ ((ReachesCycle S n → ⊥) × (has_small_default S (one_of n) ≡ false))
  too_large n = (
    λ e.
        let two = too_large_by (holds_itself S n) (reaches_cycle S n) (has_small_default S (one_of n)) (holds_reaches n) e in
        (λ there. true≢false (sym ((told n).1 there) ∙ two.0), two.1),
    λ two.
        by_too_large (holds_itself S n) (reaches_cycle S n) (has_small_default S (one_of n)) (holds_reaches n) (not_reached n (reaches_cycle S n) refl two.0) two.1,
  )

  -- where each is within bounds, none reaches a cycle
  by_bound : (holds reach small : Bool) → bound_by holds reach small ≡ Within → (holds ≡ false) × ((reach ≡ true) ⊎ (small ≡ true))
  by_bound true reach small e = cc
  by_bound false true small e = (refl, inl refl)
  by_bound false false true e = (refl, inr refl)
  by_bound false false false e = cc

  pub all_within : ((n : ℕ) → n < length S → bound S n ≡ Within) → (n : ℕ) → n < length S → IsTrue (is_bounded S n)
  all_within each n lt =
      let one = by_bound (holds_itself S n) (reaches_cycle S n) (has_small_default S (one_of n)) (each n lt) in
      is_within (holds_itself S n) (has_small_default S (one_of n)) one.0 (elim one.1 [ inr small ↦ small | inl reach ↦ absurd (none ((told n).0 reach)) ])
    where
      none : ReachesCycle S n → ⊥
      none (m, way, h) =
          let back = (reaches S m m).0 h in
          let other = by_bound (holds_itself S m) (reaches_cycle S m) (has_small_default S (one_of m)) (each m (first_container S m m back.0 back.1)) in
          true≢false (sym h ∙ other.0)

module _ (S : List Decl) (G : List (List ℕ)) (is : G ≡ map (λ d. contained_by_decl S (Some d)) S) where
  rows : (n : ℕ) → targets G n ≡ contained S n
  rows n = ap (λ H. targets H n) is ∙ ap or_empty (slice_get-map (λ d. contained_by_decl S (Some d)) S n) ∙ row_of S (slice_get S n)

  pub count : length G ≡ length S
  count = ap (λ H. length H) is ∙ length-map S (λ d. contained_by_decl S (Some d))

  pub inside : LeadInside G
  inside m n e = let within = of_decl S n (slice_get S m) (subst (λ xs. Contains xs n) (rows m) e) in let same = count in omega arith

  chain : (m n : ℕ) (js : List ℕ) → IsPath (targets G) m js n → IsChain S m js n
  chain m n [] p = subst (λ xs. Contains xs n) (rows m) p
  chain m n (j ∷ js) p = (subst (λ xs. Contains xs j) (rows m) p.0, chain j n js p.1)

  path : (m n : ℕ) (js : List ℕ) → IsChain S m js n → IsPath (targets G) m js n
  path m n [] p = subst (λ xs. Contains xs n) (sym (rows m)) p
  path m n (j ∷ js) p = (subst (λ xs. Contains xs j) (sym (rows m)) p.0, path j n js p.1)

  holds : (n : ℕ) → Leads (targets G) n n → holds_itself S n ≡ true
  holds n p = (reaches S n n).1 (p.0, chain n n p.0 p.1)

  leads : (n : ℕ) → holds_itself S n ≡ true → Leads (targets G) n n
  leads n h = let p = (reaches S n n).0 h in (p.0, path n n p.0 p.1)

  pub on_cycle : (on : List Bool) → TellsCycles (targets G) on → (n : ℕ) → flag on n ≡ holds_itself S n
  on_cycle on tells n = same_test (flag on n) (holds_itself S n) (λ h. holds n ((tells n).0 h)) (λ h. (tells n).1 (leads n h))

  to_cycle : (n : ℕ) → LeadsToCycle (targets G) n → ReachesCycle S n
  to_cycle n (m, inl same, p) = (m, inl same, holds m p)
  to_cycle n (m, inr q, p) = (m, inr (q.0, chain n m q.0 q.1), holds m p)

  back : (n : ℕ) → ReachesCycle S n → LeadsToCycle (targets G) n
  back n (m, inl same, h) = (m, inl same, leads m h)
  back n (m, inr q, h) = (m, inr (q.0, path n m q.0 q.1), leads m h)

  pub reach : (reaching : List Bool) → ((n : ℕ) → n < length G → IsTrue (flag reaching n) ↔ LeadsToCycle (targets G) n) → (n : ℕ) → n < length S → flag reaching n ≡ reaches_cycle S n
  reach reaching tells n lt =
      let same = count in
      let here = tells n (omega arith) in
      same_test (flag reaching n) (reaches_cycle S n) (λ h. (told S n).1 (to_cycle n (here.0 h))) (λ h. here.1 (back n ((told S n).0 h)))
