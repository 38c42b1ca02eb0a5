-- Lists by their places.
use Rattle.std.proofs.Common.{◌≡◌, ◌≤◌, ◌+◌, ℕ, zero, suc, Bool, true, false, cond, if◌then◌else◌, List, [], ◌∷◌, ◌++◌, map, length, Some, slice_get, refl, sym, ap, ◌∙◌, subst, arith, ◌⊎◌, inl, inr}
use Rattle.std.specs.List.{list_any, list_all, position_from}
use Rattle.aidl_base.proofs.lemmas.Tests.{neither}
use Rattle.tree_schema.proofs.lemmas.walked.Totals.{total}

-- what stands in front stays where it is; one more stands behind all
pub there-kept : {X : Type 0} (xs ys : List X) (k : ℕ) (x : X) → slice_get xs k ≡ Some x → slice_get (xs ++ ys) k ≡ Some x
there-kept [] ys k x e = cc
there-kept (y ∷ xs) ys zero x e = e
there-kept (y ∷ xs) ys (suc k) x e = there-kept xs ys k x e

pub there-last : {X : Type 0} (xs : List X) (x : X) → slice_get (xs ++ x ∷ []) (length xs) ≡ Some x
there-last [] x = refl
there-last (y ∷ xs) x = there-last xs x

pub there-cases : {X : Type 0} (xs : List X) (y : X) (k : ℕ) (x : X) → slice_get (xs ++ y ∷ []) k ≡ Some x → (slice_get xs k ≡ Some x) ⊎ ((k ≡ length xs) × (y ≡ x))
there-cases [] y zero x e = inr (refl, cc)
there-cases [] y (suc k) x e = cc
there-cases (z ∷ xs) y zero x e = inl e
there-cases (z ∷ xs) y (suc k) x e = by (there-cases xs y k x e) where
  by : (slice_get xs k ≡ Some x) ⊎ ((k ≡ length xs) × (y ≡ x)) → (slice_get xs k ≡ Some x) ⊎ ((suc k ≡ suc (length xs)) × (y ≡ x))
  by (inl h) = inl h
  by (inr h) = inr (ap suc h.0, h.1)

-- at every other place nothing changes
pub elsewhere : {X : Type 0} (xs : List X) (x : X) (k : ℕ) → (length xs ≡ k → ⊥) → slice_get (xs ++ x ∷ []) k ≡ slice_get xs k
elsewhere [] x zero h = absurd (h refl)
elsewhere [] x (suc k) h = refl
elsewhere (y ∷ xs) x zero h = refl
elsewhere (y ∷ xs) x (suc k) h = elsewhere xs x k (λ e. h (ap suc e))

-- places of a list that a function makes of another
pub there-mapped : {X Y : Type 0} (f : X → Y) (xs : List X) (n : ℕ) (y : Y) → slice_get (map f xs) n ≡ Some y → (x : X) × (slice_get xs n ≡ Some x) × (f x ≡ y)
there-mapped f [] n y at = cc
there-mapped f (x ∷ xs) zero y at = (x, refl, cc)
there-mapped f (x ∷ xs) (suc n) y at = there-mapped f xs n y at

pub mapped-there : {X Y : Type 0} (f : X → Y) (xs : List X) (n : ℕ) (x : X) → slice_get xs n ≡ Some x → slice_get (map f xs) n ≡ Some (f x)
mapped-there f [] n x at = cc
mapped-there f (y ∷ xs) zero x at = let is : y ≡ x = cc in ap (λ z. Some (f z)) is
mapped-there f (y ∷ xs) (suc n) x at = mapped-there f xs n x at

pub same-maps : {X Y : Type 0} (f g : X → Y) (xs : List X) → ((n : ℕ) (x : X) → slice_get xs n ≡ Some x → f x ≡ g x) → map f xs ≡ map g xs
same-maps f g [] h = refl
same-maps f g (x ∷ xs) h = ap (λ y. y ∷ map f xs) (h 0 x refl) ∙ ap (λ ys. g x ∷ ys) (same-maps f g xs (λ n y at. h (suc n) y at))

-- a test of all, place by place; one that none passes
pub all-from_at : {X : Type 0} (p : X → Bool) (xs : List X) → ((k : ℕ) (x : X) → slice_get xs k ≡ Some x → p x ≡ true) → list_all p xs ≡ true
all-from_at p [] h = refl
all-from_at p (x ∷ xs) h = rw (h 0 x refl) (all-from_at p xs (λ k y at. h (suc k) y at))

pub none-at : {X : Type 0} (p : X → Bool) (xs : List X) (n : ℕ) (x : X) → list_any p xs ≡ false → slice_get xs n ≡ Some x → p x ≡ false
none-at p [] n x h at = cc
none-at p (y ∷ xs) zero x h at = let is : y ≡ x = cc in subst (λ z. p z ≡ false) is (neither (p y) (list_any p xs) h).0
none-at p (y ∷ xs) (suc n) x h at = none-at p xs n x (neither (p y) (list_any p xs) h).1 at

-- the first place where a test passes
pub first-passes : {X : Type 0} (p : X → Bool) (k : ℕ) (xs : List X) (r : ℕ) → position_from p k xs ≡ Some r → (n : ℕ) × (x : X) × (r ≡ k + n) × (slice_get xs n ≡ Some x) × (p x ≡ true)
first-passes p k [] r e = cc
first-passes p k (x ∷ xs) r e = by (p x) refl e (first-passes p (k + 1) xs r) where
  by : (b : Bool) → p x ≡ b → cond b (Some k) (position_from p (k + 1) xs) ≡ Some r
      → (position_from p (k + 1) xs ≡ Some r → (n : ℕ) × (y : _) × (r ≡ (k + 1) + n) × (slice_get xs n ≡ Some y) × (p y ≡ true))
      → (n : ℕ) × (y : _) × (r ≡ k + n) × (slice_get (x ∷ xs) n ≡ Some y) × (p y ≡ true)
  by true h f later = let is : k ≡ r = cc in (0, x, omega arith, refl, h)
  by false h f later = let l = later f in let far = l.2 in (suc l.0, l.1, omega arith, l.3, l.4)

-- where one is there, a first one is found; where there is but one, it is found
pub first-found : {X : Type 0} (p : X → Bool) (k : ℕ) (xs : List X) → 1 ≤ total (λ x. if p x then 1 else 0) xs → (r : ℕ) × (position_from p k xs ≡ Some r)
first-found p k [] h = absurd (omega arith)
first-found p k (x ∷ xs) h = by (p x) h (first-found p (k + 1) xs) where
  by : (b : Bool) → 1 ≤ (if b then 1 else 0) + total (λ y. if p y then 1 else 0) xs → (1 ≤ total (λ y. if p y then 1 else 0) xs → (r : ℕ) × (position_from p (k + 1) xs ≡ Some r))
      → (r : ℕ) × (cond b (Some k) (position_from p (k + 1) xs) ≡ Some r)
  by true g later = (k, refl)
  by false g later = later (omega arith)

some-there : {X : Type 0} (p : X → Bool) (xs : List X) (n : ℕ) (x : X) → slice_get xs n ≡ Some x → p x ≡ true → 1 ≤ total (λ y. if p y then 1 else 0) xs
some-there p [] n x at h = cc
some-there p (y ∷ xs) zero x at h = let is : y ≡ x = cc in let passes : p y ≡ true = ap p is ∙ h in rw passes (omega arith)
some-there p (y ∷ xs) (suc n) x at h = let rest = some-there p xs n x at h in omega arith

pub only-found : {X : Type 0} (p : X → Bool) (k : ℕ) (xs : List X) (n : ℕ) (x : X) → slice_get xs n ≡ Some x → p x ≡ true → total (λ y. if p y then 1 else 0) xs ≤ 1 → position_from p k xs ≡ Some (k + n)
only-found p k [] n x at h le = cc
only-found p k (y ∷ xs) zero x at h le =
    let is : y ≡ x = cc in
    let passes : p y ≡ true = ap p is ∙ h in
    let same : k ≡ k + 0 = omega arith in
    rw passes (ap Some same)
only-found p k (y ∷ xs) (suc n) x at h le =
    let there = some-there p xs n x at h in
    by (p y) le (λ l. only-found p (k + 1) xs n x at h l) where
      by : (b : Bool) → (if b then 1 else 0) + total (λ z. if p z then 1 else 0) xs ≤ 1 → (total (λ z. if p z then 1 else 0) xs ≤ 1 → position_from p (k + 1) xs ≡ Some ((k + 1) + n))
          → cond b (Some k) (position_from p (k + 1) xs) ≡ Some (k + suc n)
      by true g later = let many = some-there p xs n x at h in absurd (omega arith)
      by false g later = let on : (k + 1) + n ≡ k + suc n = omega arith in later (omega arith) ∙ ap Some on

-- where one alone passes, it has one place
pub one-place : {X : Type 0} (p : X → Bool) (xs : List X) (j k : ℕ) (x y : X) → slice_get xs j ≡ Some x → slice_get xs k ≡ Some y → p x ≡ true → p y ≡ true → total (λ z. if p z then 1 else 0) xs ≤ 1 → j ≡ k
one-place p xs j k x y at there f g le =
    let one : Some (0 + j) ≡ Some (0 + k) = sym (only-found p 0 xs j x at f le) ∙ only-found p 0 xs k y there g le in
    let same : 0 + j ≡ 0 + k = cc in
    omega arith
