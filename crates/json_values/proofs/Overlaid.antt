-- Values that are given at places, over those of all fields: what a place more changes, and what it doesn't.
use Rattle.std.proofs.Common.{◌≡◌, ℕ, zero, suc, ◌+◌, ◌<◌, ◌≤◌, true, false, List, [], ◌∷◌, ◌++◌, length, refl, ap, ◌∙◌, subst, arith, add-one}
use Rattle.std.specs.Prelude.{◌==◌, if◌then◌else◌}
use Rattle.std.specs.List.{All}
use Rattle.std.proofs.lemmas.Bool.Decides.{nat_tests}
use Rattle.std.proofs.lemmas.List.Elements.{All-cons, All-head, All-nil, All-tail}
use Rattle.std.specs.List.{range_with_len}
use Rattle.std.proofs.lemmas.List.FromFn.{length-range_with_len}
use Rattle.aidl_values.specs.Given.{given_at, overlaid}

same_test : (n : ℕ) → (n == n) ≡ true
same_test n = grind (arith, nat_tests)

other_test : (m n : ℕ) → (m ≡ n → ⊥) → (m == n) ≡ false
other_test m n apart = grind (arith, nat_tests)

-- places that are all below one
abbrev pub AreBelow : ℕ → List ℕ → Type 0
AreBelow n ps = All (λ q. q < n) ps

head_below : (n q : ℕ) (ps : List ℕ) → AreBelow n (q ∷ ps) → q < n
head_below n q ps below = All-head (λ q. q < n) q ps below

tail_below : (n q : ℕ) (ps : List ℕ) → AreBelow n (q ∷ ps) → AreBelow n ps
tail_below n q ps below = All-tail (λ q. q < n) q ps below

further_below : (ps : List ℕ) (m n : ℕ) → m ≤ n → AreBelow m ps → AreBelow n ps
further_below [] m n le low = All-nil (λ q. q < n)
further_below (q ∷ ps) m n le low =
    let first : q < n = omega (arith, head_below m q ps low) in
    All-cons (λ q. q < n) q ps first (further_below ps m n le (tail_below m q ps low))

module _ {T : Type 0} where
  -- nothing is given at a place behind all
  given_none : (ps : List ℕ) (vs : List T) (k : ℕ) (other : T) → AreBelow k ps → given_at ps vs k other ≡ other
  given_none [] vs k other below = refl
  given_none (q ∷ ps) [] k other below = refl
  given_none (q ∷ ps) (v ∷ vs) k other below =
      let apart : (q == k) ≡ false = other_test q k (λ e. omega (arith, head_below k q ps below, e)) in
      rw apart (given_none ps vs k other (tail_below k q ps below))

  -- a value given behind all
  given_here : (ps : List ℕ) (vs : List T) (p : ℕ) (v other : T) → length ps ≡ length vs → AreBelow p ps → given_at (ps ++ p ∷ []) (vs ++ v ∷ []) p other ≡ v
  given_here [] [] p v other many below = rw (same_test p) refl
  given_here [] (w ∷ vs) p v other many below = absurd (omega arith)
  given_here (q ∷ ps) [] p v other many below = absurd (omega arith)
  given_here (q ∷ ps) (w ∷ vs) p v other many below =
      let apart : (q == p) ≡ false = other_test q p (λ e. omega (arith, head_below p q ps below, e)) in
      rw apart (given_here ps vs p v other (omega arith) (tail_below p q ps below))

  -- it changes none before it
  given_before : (ps : List ℕ) (vs : List T) (p k : ℕ) (v other : T) → length ps ≡ length vs → k < p → given_at (ps ++ p ∷ []) (vs ++ v ∷ []) k other ≡ given_at ps vs k other
  given_before [] [] p k v other many lt =
      let apart : (p == k) ≡ false = other_test p k (λ e. omega (arith, lt, e)) in
      rw apart refl
  given_before [] (w ∷ vs) p k v other many lt = absurd (omega arith)
  given_before (q ∷ ps) [] p k v other many lt = absurd (omega arith)
  given_before (q ∷ ps) (w ∷ vs) p k v other many lt = ap (λ x. if q == k then w else x) (given_before ps vs p k v other (omega arith) lt)

  overlaid_before : (ps : List ℕ) (vs : List T) (p k : ℕ) (v : T) (xs : List T) → length ps ≡ length vs → k + length xs ≤ p → overlaid (ps ++ p ∷ []) (vs ++ v ∷ []) k xs ≡ overlaid ps vs k xs
  overlaid_before ps vs p k v [] many le = refl
  overlaid_before ps vs p k v (x ∷ xs) many le =
      rw (given_before ps vs p k v x many (omega arith), overlaid_before ps vs p (suc k) v xs many (omega arith)) refl

  -- places that all stand before
  overlaid_none : (ps : List ℕ) (vs : List T) (k : ℕ) (xs : List T) → AreBelow k ps → overlaid ps vs k xs ≡ xs
  overlaid_none ps vs k [] below = refl
  overlaid_none ps vs k (x ∷ xs) below =
      let here = given_none ps vs k x below in
      let later = overlaid_none ps vs (suc k) xs (further_below ps k (suc k) (omega arith) below) in
      rw (here, later) refl

  overlaid_append : (ps : List ℕ) (vs : List T) (k : ℕ) (xs ys : List T) → overlaid ps vs k (xs ++ ys) ≡ overlaid ps vs k xs ++ overlaid ps vs (k + length xs) ys
  overlaid_append ps vs k [] ys = let n : k + 0 ≡ k = omega arith in rw n refl
  overlaid_append ps vs k (x ∷ xs) ys =
      let n : suc k + length xs ≡ k + suc (length xs) = omega arith in
      ap (λ l. given_at ps vs k x ∷ l) (overlaid_append ps vs (suc k) xs ys ∙ ap (λ m. overlaid ps vs (suc k) xs ++ overlaid ps vs m ys) n)

  -- the others behind the places
  pub overlaid_rest : (ps : List ℕ) (vs xs ys : List T) → AreBelow (length xs) ps → overlaid ps vs 0 (xs ++ ys) ≡ overlaid ps vs 0 xs ++ ys
  overlaid_rest ps vs xs ys below =
      let n : 0 + length xs ≡ length xs = omega arith in
      overlaid_append ps vs 0 xs ys ∙ ap (λ m. overlaid ps vs 0 xs ++ overlaid ps vs m ys) n ∙ ap (λ l. overlaid ps vs 0 xs ++ l) (overlaid_none ps vs (length xs) ys below)

  -- one value more
  pub overlaid_more : (ps : List ℕ) (vs xs : List T) (p : ℕ) (v d : T) → p ≡ length xs → length ps ≡ length vs → AreBelow p ps
      → overlaid (ps ++ p ∷ []) (vs ++ v ∷ []) 0 (xs ++ d ∷ []) ≡ overlaid ps vs 0 xs ++ v ∷ []
  overlaid_more ps vs xs p v d is many below =
      let n : 0 + length xs ≡ p = omega (arith, is) in
      overlaid_append (ps ++ p ∷ []) (vs ++ v ∷ []) 0 xs (d ∷ [])
      ∙ ap (λ l. l ++ overlaid (ps ++ p ∷ []) (vs ++ v ∷ []) (0 + length xs) (d ∷ [])) (overlaid_before ps vs p 0 v xs many (omega (arith, is)))
      ∙ ap (λ m. overlaid ps vs 0 xs ++ overlaid (ps ++ p ∷ []) (vs ++ v ∷ []) m (d ∷ [])) n
      ∙ ap (λ x. overlaid ps vs 0 xs ++ x ∷ []) (given_here ps vs p v d many below)

  first_from : (n k : ℕ) (vs xs : List T) → length vs ≡ n → length xs ≡ n → overlaid (range_with_len k n) vs k xs ≡ vs
  first_from zero k [] [] v x = refl
  first_from zero k [] (y ∷ xs) v x = absurd (omega arith)
  first_from zero k (w ∷ vs) xs v x = absurd (omega arith)
  first_from (suc n) k [] xs v x = absurd (omega arith)
  first_from (suc n) k (w ∷ vs) [] v x = absurd (omega arith)
  first_from (suc n) k (w ∷ vs) (y ∷ xs) v x =
      rw (same_test k) (ap (λ l. w ∷ l) (passed (range_with_len (k + 1) n) vs (suc k) xs (omega arith) ∙ ap (λ m. overlaid (range_with_len m n) vs (suc k) xs) (add-one k) ∙ first_from n (suc k) vs xs (omega arith) (omega arith)))
    where
      passed : (ps : List ℕ) (us : List T) (m : ℕ) (ys : List T) → k < m → overlaid (k ∷ ps) (w ∷ us) m ys ≡ overlaid ps us m ys
      passed ps us m [] lt = refl
      passed ps us m (z ∷ ys) lt =
          let apart : (k == m) ≡ false = other_test k m (λ e. omega (arith, lt, e)) in
          rw (apart, passed ps us (suc m) ys (omega arith)) refl

  -- the first places are those of as many values
  pub overlaid_first : (vs xs : List T) → length xs ≡ length vs → overlaid (range_with_len 0 (length vs)) vs 0 xs ≡ vs
  overlaid_first vs xs many = first_from (length vs) 0 vs xs refl many

-- and all of them are below their number
places_below : (n k : ℕ) → AreBelow (k + n) (range_with_len k n)
places_below zero k = All-nil (λ q. q < k + 0)
places_below (suc n) k =
    let first : k < k + suc n = omega arith in
    let e : k + 1 + n ≡ k + suc n = omega arith in
    All-cons (λ q. q < k + suc n) k (range_with_len (k + 1) n) first (subst (λ m. AreBelow m (range_with_len (k + 1) n)) e (places_below n (k + 1)))

pub first_below : (n : ℕ) → AreBelow n (range_with_len 0 n)
first_below n = let e : 0 + n ≡ n = omega arith in subst (λ m. AreBelow m (range_with_len 0 n)) e (places_below n 0)

pub first_many : (n : ℕ) → length (range_with_len 0 n) ≡ n
first_many n = length-range_with_len 0 n
