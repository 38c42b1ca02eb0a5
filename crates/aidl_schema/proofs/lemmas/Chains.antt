-- A chain of containment needs no more steps than there are declarations.
use Rattle.std.proofs.Common.{◌≡◌, ℕ, zero, suc, ◌<◌, Bool, true, false, ◌||◌, ◌==◌, eqb, List, [], ◌∷◌, length, Option, Some, None, slice_get, refl, sym, ◌∙◌, subst, arith, true≢false}
use Rattle.std.specs.Prelude.{Contains}
use Rattle.std.specs.List.{list_any, AllByRecursion, IsDistinct}
use Rattle.std.proofs.lemmas.Bool.Decides.{nat_tests}
use Rattle.std.proofs.lemmas.List.Folds.{Any-from_list_any, list_any-from_Any}
use Rattle.std.proofs.lemmas.Option.{slice_get_within}
use Rattle.std.proofs.lemmas.Map.Keys.{IsDistinct-tail, IsDistinct-cons}
use Rattle.std.proofs.lemmas.Map.Steps.{length-le_from_distinct_below}
use Rattle.aidl_base.proofs.lemmas.Tests.{neither}
use Rattle.aidl_schema.specs.declared.schema.Decl.{Decl}
use Rattle.aidl_schema.specs.Containment.{contained, contained_by_decl, IsChain, Reaches, reaches_within}

or_left : (a b : Bool) → a ≡ true → (a || b) ≡ true
or_left a b e = rw e refl

or_right : (a b : Bool) → b ≡ true → (a || b) ≡ true
or_right true b e = refl
or_right false b e = e

none_of : (m : ℕ) (xs : List ℕ) → list_any (eqb m) xs ≡ false → AllByRecursion (λ y. eqb m y ≡ false) xs
none_of m [] h = tt
none_of m (x ∷ xs) h = let two = neither (eqb m x) (list_any (eqb m) xs) h in (two.0, none_of m xs two.1)

module _ (S : List Decl) where
  -- what contains something is a declaration
  container_at : (m : ℕ) (o : Option Decl) (j : ℕ) → slice_get S m ≡ o → Contains (contained_by_decl S o) j → m < length S
  container_at m None j e h = absurd (omega (arith, h.1))
  container_at m (Some d) j e h = slice_get_within S m d e

  container : (m j : ℕ) → Contains (contained S m) j → m < length S
  container m j h = container_at m (slice_get S m) j refl h

  first_container : (m n : ℕ) (js : List ℕ) → IsChain S m js n → m < length S
  first_container m n [] chain = container m n chain
  first_container m n (j ∷ js) chain = container m j chain.0

  -- what a test finds is a chain
  step_from : (j m n : ℕ) (b : Bool) → (j == n) ≡ b → Contains (contained S m) j → (b ≡ false → Reaches S j n) → Reaches S m n
  step_from j m n true e here later = let same : j ≡ n = grind (arith, nat_tests) in ([], subst (λ x. Contains (contained S m) x) same here)
  step_from j m n false e here later = let rest = later refl in (j ∷ rest.0, (here, rest.1))

  or_so : (a b c : Bool) → (a || b) ≡ true → a ≡ c → c ≡ false → b ≡ true
  or_so true b c h e f = absurd (true≢false (e ∙ f))
  or_so false b c h e f = h

  chain_from : (k m n : ℕ) → reaches_within k S m n ≡ true → Reaches S m n
  unfolding reaches_within
  chain_from zero m n h = cc
  chain_from (suc k) m n h =
      let some = Any-from_list_any (λ j. (j == n) || reaches_within k S j n) (contained S m) h in
      step_from some.1 m n (some.1 == n) refl (some.0, some.2, some.3)
      (λ no. chain_from k some.1 n (or_so (some.1 == n) (reaches_within k S some.1 n) (some.1 == n) some.4 refl no))

  -- a chain is found with as many steps as it has
  found : (k m n : ℕ) (js : List ℕ) → IsChain S m js n → length js < k → reaches_within k S m n ≡ true
  unfolding reaches_within
  found zero m n js chain lt = absurd (omega arith)
  found (suc k) m n [] chain lt =
      let same : (n == n) ≡ true = grind (arith, nat_tests) in
      list_any-from_Any (λ j. (j == n) || reaches_within k S j n) (contained S m) (chain.0, n, chain.1, chain.2, or_left (n == n) (reaches_within k S n n) same)
  found (suc k) m n (j ∷ js) chain lt =
      let later = found k j n js chain.1 (omega arith) in
      list_any-from_Any (λ i. (i == n) || reaches_within k S i n) (contained S m)
      (chain.0.0, j, chain.0.1, chain.0.2, or_right (j == n) (reaches_within k S j n) later)

  -- A chain with m in it has an end that begins at m.
  end_from : (m n y : ℕ) (js : List ℕ) (b : Bool) → eqb m y ≡ b → IsChain S y js n → IsDistinct eqb (y ∷ js) → list_any (eqb m) (y ∷ js) ≡ true
      → (ks : List ℕ) × IsChain S m ks n × IsDistinct eqb (m ∷ ks)
  end_from m n y js true e chain distinct h =
      let same : y ≡ m = grind (arith, nat_tests) in
      (js, subst (λ x. IsChain S x js n) same chain, subst (λ x. IsDistinct eqb (x ∷ js)) same distinct)
  end_from m n y [] false e chain distinct h = absurd (true≢false (sym (or_so (eqb m y) false false h e refl)))
  end_from m n y (z ∷ zs) false e chain distinct h =
      end_from m n z zs (eqb m z) refl chain.1 (IsDistinct-tail eqb y (z ∷ zs) distinct) (or_so (eqb m y) (list_any (eqb m) (z ∷ zs)) false h e refl)

  -- So where a chain leads, one leads that meets no declaration twice.
  add_first : (m n j : ℕ) (ks : List ℕ) (b : Bool) → list_any (eqb m) (j ∷ ks) ≡ b → Contains (contained S m) j → IsChain S j ks n → IsDistinct eqb (j ∷ ks)
      → (is : List ℕ) × IsChain S m is n × IsDistinct eqb (m ∷ is)
  add_first m n j ks true h here chain distinct = end_from m n j ks (eqb m j) refl chain distinct h
  add_first m n j ks false h here chain distinct = (j ∷ ks, (here, chain), IsDistinct-cons eqb m (j ∷ ks) (none_of m (j ∷ ks) h) distinct)

  straight : (m n : ℕ) (js : List ℕ) → IsChain S m js n → (ks : List ℕ) × IsChain S m ks n × IsDistinct eqb (m ∷ ks)
  unfolding IsDistinct
  straight m n [] chain = ([], chain, (tt, tt))
  straight m n (j ∷ js) chain =
      let rest = straight j n js chain.1 in
      add_first m n j rest.0 (list_any (eqb m) (j ∷ rest.0)) refl chain.0 rest.1 rest.2

  members_within : (q m n : ℕ) (js : List ℕ) (b : Bool) → eqb q m ≡ b → IsChain S m js n → list_any (eqb q) (m ∷ js) ≡ true → q < length S
  members_within q m n js true e chain h =
      let same : m ≡ q = grind (arith, nat_tests) in
      subst (λ x. x < length S) same (first_container m n js chain)
  members_within q m n [] false e chain h = absurd (true≢false (sym (or_so (eqb q m) false false h e refl)))
  members_within q m n (z ∷ zs) false e chain h =
      members_within q z n zs (eqb q z) refl chain.1 (or_so (eqb q m) (list_any (eqb q) (z ∷ zs)) false h e refl)

  -- The test with as many steps as declarations decides whether a chain leads from m to n.
  pub reaches : (m n : ℕ) → (reaches_within (length S) S m n ≡ true → Reaches S m n) × (Reaches S m n → reaches_within (length S) S m n ≡ true)
  reaches m n = (
    λ h. chain_from (length S) m n h,
    λ chain.
        let short = straight m n chain.0 chain.1 in
        let few = length-le_from_distinct_below (m ∷ short.0) (length S) short.2 (λ q h. members_within q m n short.0 (eqb q m) refl short.1 h) in
        found (length S) m n short.0 short.1 (omega arith),
  )
