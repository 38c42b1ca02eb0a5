-- Places that rise: which of them a number is, and what follows of the values given there.
use Rattle.std.proofs.Common.{◌≡◌, ℕ, zero, suc, ◌+◌, ◌<◌, ◌≤◌, ◌==◌, Bool, true, false, nat_lt, List, [], ◌∷◌, ◌++◌, length, get_or, refl, ap, ◌∙◌, arith}
use Rattle.std.specs.List.{All, range_with_len}
use Rattle.std.proofs.lemmas.List.Elements.{All-nil, All-cons, All-head, All-tail, All-append}
use Rattle.std.proofs.lemmas.List.FromFn.{length-range_with_len, get_or-range_with_len}
use Rattle.std.proofs.lemmas.Bool.Decides.{nat_tests}
use Rattle.aidl_values.specs.Given.{IsRising, given_at}

pub rising-push : (ps : List ℕ) (p : ℕ) → IsRising ps → All (λ q. q < p) ps → IsRising (ps ++ p ∷ [])
rising-push [] p rising below = (All-nil (λ q. p < q), tt)
rising-push (q ∷ ps) p rising below =
    (All-append (λ r. q < r) ps (p ∷ []) rising.0 (All-cons (λ r. q < r) p [] (All-head (λ r. r < p) q ps below) (All-nil (λ r. q < r))), rising-push ps p rising.1 (All-tail (λ r. r < p) q ps below))

pub narrow-push : (ps : List ℕ) (p : ℕ) → All (λ q. q < 4294967296) ps → p < 4294967296 → All (λ q. q < 4294967296) (ps ++ p ∷ [])
narrow-push ps p all one = All-append (λ q. q < 4294967296) ps (p ∷ []) all (All-cons (λ q. q < 4294967296) p [] one (All-nil (λ q. q < 4294967296)))

pub in_order : (ps : List ℕ) → IsRising ps → (i j : ℕ) → i ≤ j → j < length ps → get_or ps i 0 ≤ get_or ps j 0
in_order [] rising i j le lt = absurd (omega (arith, lt))
in_order (p ∷ ps) rising zero zero le lt = omega arith
in_order (p ∷ ps) rising zero (suc j) le lt = let above : p < get_or ps j 0 = rising.0 j 0 (omega (arith, lt)) in omega (arith, above)
in_order (p ∷ ps) rising (suc i) zero le lt = absurd (omega (arith, le))
in_order (p ∷ ps) rising (suc i) (suc j) le lt = in_order ps rising.1 i j (omega (arith, le)) (omega (arith, lt))

-- a number that would have its place among others isn't one of them
pub apart : (xs : List ℕ) (x i : ℕ) → ((k : ℕ) → k < i → get_or xs k 0 < x) → ((k : ℕ) → i ≤ k → k < length xs → x < get_or xs k 0)
    → (k : ℕ) → k < length xs → get_or xs k 0 ≡ x → ⊥
apart xs x i low high k lt same = by (nat_lt k i) refl
  where
    by : (b : Bool) → nat_lt k i ≡ b → ⊥
    by true is = let below : k < i = grind (arith, nat_tests) in let h = low k below in absurd (omega (arith, h, same))
    by false is = let above : i ≤ k = grind (arith, nat_tests) in let h = high k above lt in absurd (omega (arith, h, same))

module _ {T : Type 0} where
  pub given_there : (ps : List ℕ) (vs : List T) (i k : ℕ) (other : T) → IsRising ps → i < length ps → get_or ps i 0 ≡ k → given_at ps vs k other ≡ get_or vs i other
  given_there [] vs i k other rising lt is = absurd (omega (arith, lt))
  given_there (p ∷ ps) [] i k other rising lt is = refl
  given_there (p ∷ ps) (v ∷ vs) zero k other rising lt is = let test : (p == k) ≡ true = grind (arith, nat_tests) in rw test refl
  given_there (p ∷ ps) (v ∷ vs) (suc i) k other rising lt is =
      let above : p < get_or ps i 0 = rising.0 i 0 (omega (arith, lt)) in
      let test : (p == k) ≡ false = grind (arith, nat_tests) in
      rw test (given_there ps vs i k other rising.1 (omega (arith, lt)) is)

  pub given_nowhere : (ps : List ℕ) (vs : List T) (k : ℕ) (other : T) → ((i : ℕ) → i < length ps → get_or ps i 0 ≡ k → ⊥) → given_at ps vs k other ≡ other
  given_nowhere [] vs k other none = refl
  given_nowhere (p ∷ ps) [] k other none = refl
  given_nowhere (p ∷ ps) (v ∷ vs) k other none =
      let differs : p ≡ k → ⊥ = none 0 (omega arith) in
      let test : (p == k) ≡ false = grind (arith, nat_tests) in
      rw test (given_nowhere ps vs k other (λ i lt is. none (suc i) (omega (arith, lt)) is))

-- the first places, and one more
pub first_below : (n : ℕ) → All (λ p. p < n) (range_with_len 0 n)
first_below n k d lt = omega (arith, lt, length-range_with_len 0 n, get_or-range_with_len 0 n k d (omega (arith, lt, length-range_with_len 0 n)))

range_last : (a n j : ℕ) → a + n ≡ j → range_with_len a (suc n) ≡ range_with_len a n ++ j ∷ []
range_last a zero j e = let same : a ≡ j = omega (arith, e) in ap (λ x. x ∷ []) same
range_last a (suc n) j e = ap (λ xs. a ∷ xs) (range_last (a + 1) n j (omega (arith, e)))

pub first_more : (n : ℕ) → range_with_len 0 (n + 1) ≡ range_with_len 0 n ++ n ∷ []
first_more n = let on : n + 1 ≡ suc n = omega arith in ap (λ m. range_with_len 0 m) on ∙ range_last 0 n n (omega arith)
