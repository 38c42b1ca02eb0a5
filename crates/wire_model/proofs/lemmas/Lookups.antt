-- What is found in a list by a test, and where.
use Rattle.std.proofs.Common.{◌≡◌, ℕ, zero, suc, ◌+◌, Bool, true, false, cond, List, [], ◌∷◌, Option, Some, None, slice_get, find, refl, sym, ap, ◌∙◌, subst, arith}
use Rattle.std.specs.List.{position, position_from}
use Rattle.std.proofs.lemmas.Iterator.Adapters.{position_from-zero}
use Rattle.aidl_schema.specs.Holds.{AreApart}
use Rattle.aidl_schema.specs.Unbroken.{Has, AreBoth}

-- what is found of what passes a test
abbrev pub Found : {X : Type 0} → (X → Bool) → List X → Type 0
Found {X} test xs = (y : X) × (find test xs ≡ Some y) × Has xs y × (test y ≡ true)

pub finds : {X : Type 0} (test : X → Bool) (xs : List X) (j : ℕ) (x : X) → slice_get xs j ≡ Some x → test x ≡ true → Found test xs
finds test [] j x at is = cc
finds {X} test (a ∷ xs) j x at is = by_test (test a) refl j at (λ j k. finds test xs j x k is)
  where
    by_test : (b : Bool) → test a ≡ b → (j : ℕ) → slice_get (a ∷ xs) j ≡ Some x → ((j : ℕ) → slice_get xs j ≡ Some x → Found test xs) → Found test (a ∷ xs)
    by_test true h j at later = (a, rw h refl, (0, refl), h)
    by_test false h zero at later = let one : a ≡ x = cc in let passes : test a ≡ true = subst (λ z. test z ≡ true) (sym one) is in cc
    by_test false h (suc j) at later = let r = later j at in (r.0, rw h r.1, (suc r.2.0, r.2.1), r.3)

pub found_is : {X : Type 0} (test : X → Bool) (xs : List X) (y : X) → find test xs ≡ Some y → Has xs y × (test y ≡ true)
found_is test [] y e = cc
found_is {X} test (x ∷ xs) y e = by_test (test x) refl e (λ h. found_is test xs y h)
  where
    by_test : (b : Bool) → test x ≡ b → find test (x ∷ xs) ≡ Some y → (find test xs ≡ Some y → Has xs y × (test y ≡ true)) → Has (x ∷ xs) y × (test y ≡ true)
    by_test true h e later =
        let first : ◌≡◌ {A = Option X} (Some x) (Some y) = rw h at e in
        let one : x ≡ y = cc in
        ((0, first), subst (λ z. test z ≡ true) one h)
    by_test false h e later = let r = later (rw h at e) in ((suc r.0.0, r.0.1), r.1)

-- what stands at different places differs by its key
pub same_place : {X K : Type 0} (key : X → K) (xs : List X) → AreApart key xs → (x y : X) → Has xs x → Has xs y → key x ≡ key y → x ≡ y
same_place {X} key xs apart x y here there e =
    let place : here.0 ≡ there.0 = apart here.0 there.0 x y here.1 there.1 e in
    let at : slice_get xs there.0 ≡ Some x = subst (λ k. slice_get xs k ≡ Some x) place here.1 in
    let one : ◌≡◌ {A = Option X} (Some x) (Some y) = sym at ∙ there.1 in
    cc

-- what is alike in both lists, where keys in the second differ
pub both_of : {X K : Type 0} (alike : X → X → Bool) (key : X → K) → ((x y : X) → alike x y ≡ true → key x ≡ key y) → (xs ys : List X) → AreApart key ys
    → (x y : X) → Has xs x → Has ys y → alike x y ≡ true → AreBoth alike xs ys x y
both_of {X} alike key means xs ys apart x y here there is =
    let z = finds (λ z. alike x z) ys there.0 y there.1 is in
    let one : z.0 ≡ y = same_place key ys apart z.0 y z.2 there (sym (means x z.0 z.3) ∙ means x y is) in
    (here, z.1 ∙ ap (λ z. let o : Option X = Some z in o) one)

module _ {X : Type 0} (test : X → Bool) where
  from_first : (xs : List X) (k i : ℕ) (x : X) → slice_get xs i ≡ Some x → test x ≡ true → ((j : ℕ) (y : X) → slice_get xs j ≡ Some y → test y ≡ true → j ≡ i)
      → position_from test k xs ≡ Some (k + i)
  from_first [] k i x at is one = cc
  from_first (y ∷ xs) k zero x at is one =
      let same : y ≡ x = cc in
      let here : test y ≡ true = ap test same ∙ is in
      let n : k ≡ k + zero = omega arith in
      rw here (ap Some n)
  from_first (y ∷ xs) k (suc i) x at is one =
      let n : (k + 1) + i ≡ k + suc i = omega arith in
      let later = from_first xs (k + 1) i x at is (λ j z there so. let same : suc j ≡ suc i = one (suc j) z there so in omega arith) in
      not_here (test y) k (k + suc i) (position_from test (k + 1) xs) (λ e. let clash : zero ≡ suc i = one zero y refl e in cc) (later ∙ ap Some n)
    where
      not_here : (b : Bool) (k n : ℕ) (rest : Option ℕ) → (b ≡ true → ⊥) → rest ≡ Some n → cond b (Some k) rest ≡ Some n
      not_here true k n rest differs e = absurd (differs refl)
      not_here false k n rest differs e = e

  from_none : (xs : List X) (k : ℕ) → ((j : ℕ) (y : X) → slice_get xs j ≡ Some y → test y ≡ false) → position_from test k xs ≡ None
  from_none [] k none = refl
  from_none (y ∷ xs) k none = let here : test y ≡ false = none zero y refl in rw here (from_none xs (k + 1) (λ j z at. none (suc j) z at))

  -- at the position i stands one that passes
  abbrev pub Passes : List X → ℕ → Type 0
  Passes xs i = (x : X) × (slice_get xs i ≡ Some x) × (test x ≡ true)

  from_tells : (xs : List X) (k n : ℕ) → position_from test k xs ≡ Some n → (i : ℕ) × (n ≡ k + i) × Passes xs i
  from_tells [] k n e = cc
  from_tells (x ∷ xs) k n e = by_test (test x) refl e (λ h. from_tells xs (k + 1) n h)
    where
      by_test : (b : Bool) → test x ≡ b → position_from test k (x ∷ xs) ≡ Some n → (position_from test (k + 1) xs ≡ Some n → (i : ℕ) × (n ≡ (k + 1) + i) × Passes xs i)
          → (i : ℕ) × (n ≡ k + i) × Passes (x ∷ xs) i
      by_test true h e later = let first : ◌≡◌ {A = Option ℕ} (Some k) (Some n) = rw h at e in let same : k ≡ n = cc in (0, omega arith, (x, refl, h))
      by_test false h e later = let r = later (rw h at e) in (suc r.0, omega (arith, r.1), r.2)

  none_from : (xs : List X) (k : ℕ) → position_from test k xs ≡ None → (j : ℕ) (y : X) → slice_get xs j ≡ Some y → test y ≡ false
  none_from [] k e j y at = cc
  none_from (x ∷ xs) k e j y at = by_test (test x) refl e j at (λ h j at. none_from xs (k + 1) h j y at)
    where
      by_test : (b : Bool) → test x ≡ b → position_from test k (x ∷ xs) ≡ None → (j : ℕ) → slice_get (x ∷ xs) j ≡ Some y
          → (position_from test (k + 1) xs ≡ None → (j : ℕ) → slice_get xs j ≡ Some y → test y ≡ false) → test y ≡ false
      by_test true h e j at later = let some : ◌≡◌ {A = Option ℕ} (Some k) None = rw h at e in cc
      by_test false h e zero at later = let one : x ≡ y = cc in subst (λ z. test z ≡ false) one h
      by_test false h e (suc j) at later = later (rw h at e) j at

  -- The position of the one that passes.
  pub position_is : (xs : List X) (i : ℕ) (x : X) → slice_get xs i ≡ Some x → test x ≡ true → ((j : ℕ) (y : X) → slice_get xs j ≡ Some y → test y ≡ true → j ≡ i) → position test xs ≡ Some i
  position_is xs i x at is one = let n : 0 + i ≡ i = omega arith in position_from-zero test xs ∙ from_first xs 0 i x at is one ∙ ap Some n

  -- There is none where none passes.
  pub position_none : (xs : List X) → ((j : ℕ) (y : X) → slice_get xs j ≡ Some y → test y ≡ false) → position test xs ≡ None
  position_none xs none = position_from-zero test xs ∙ from_none xs 0 none

  -- What stands at a position that is found passes.
  pub position_passes : (xs : List X) (i : ℕ) → position test xs ≡ Some i → Passes xs i
  position_passes xs i e =
      let r = from_tells xs 0 i (sym (position_from-zero test xs) ∙ e) in
      let same : r.0 ≡ i = omega (arith, r.1) in
      subst (λ n. Passes xs n) same r.2

  -- Where none is found, none passes.
  pub none_passes : (xs : List X) → position test xs ≡ None → (j : ℕ) (y : X) → slice_get xs j ≡ Some y → test y ≡ false
  none_passes xs e = none_from xs 0 (sym (position_from-zero test xs) ∙ e)
