-- What a list weighs: the sum of what its items weigh. So lists are compared by how often each item stands there.
use Rattle.std.proofs.Common.{Some, slice_get, ◌≡◌, ◌≤◌, ◌+◌, ℕ, suc, Bool, true, false, ◌&&◌, ◌||◌, if◌then◌else◌, List, [], ◌∷◌, ◌++◌, map, length, filter, refl, ap, arith}
use Rattle.std.specs.List.{list_any, list_all, enumerate_from}
use Rattle.aidl_base.proofs.lemmas.Tests.{both, neither}
use Rattle.aidl_schema.specs.Names.{are_distinct}
use Rattle.aidl_schema.specs.Same.{same_text}
use Rattle.aidl_schema.proofs.lemmas.Sames.{same_text_refl}

abbrev pub total : {X : Type 0} → (X → ℕ) → List X → ℕ
total f [] = 0
total f (x ∷ xs) = f x + total f xs

pub total-append : {X : Type 0} (f : X → ℕ) (xs ys : List X) → total f (xs ++ ys) ≡ total f xs + total f ys
total-append f [] ys = omega arith
total-append f (x ∷ xs) ys = let h = total-append f xs ys in omega arith

pub total-map : {X Y : Type 0} (f : Y → ℕ) (g : X → Y) (xs : List X) → total f (map g xs) ≡ total (λ x. f (g x)) xs
total-map f g [] = refl
total-map f g (x ∷ xs) = ap (λ (n : ℕ). f (g x) + n) (total-map f g xs)

pub total-le : {X : Type 0} (f g : X → ℕ) → ((x : X) → f x ≤ g x) → (xs : List X) → total f xs ≤ total g xs
total-le f g h [] = omega arith
total-le f g h (x ∷ xs) = let a = h x in let b = total-le f g h xs in omega arith

-- the same where each item stands
pub total-le_at : {X : Type 0} (f g : X → ℕ) (xs : List X) → ((n : ℕ) (x : X) → slice_get xs n ≡ Some x → f x ≤ g x) → total f xs ≤ total g xs
total-le_at f g [] h = omega arith
total-le_at f g (x ∷ xs) h = let a = h 0 x refl in let b = total-le_at f g xs (λ n y at. h (suc n) y at) in omega arith

pub total-same : {X : Type 0} (f g : X → ℕ) → ((x : X) → f x ≡ g x) → (xs : List X) → total f xs ≡ total g xs
total-same f g h [] = refl
total-same f g h (x ∷ xs) = let a = h x in let b = total-same f g h xs in omega arith

pub total-plus : {X : Type 0} (f g : X → ℕ) (xs : List X) → total f xs + total g xs ≡ total (λ x. f x + g x) xs
total-plus f g [] = refl
total-plus f g (x ∷ xs) = let h = total-plus f g xs in omega arith

pub total-length : {X : Type 0} (xs : List X) → total (λ x. 1) xs ≡ length xs
total-length [] = refl
total-length (x ∷ xs) = let h = total-length xs in omega arith

pub total-filter : {X : Type 0} (f : X → ℕ) (p : X → Bool) (xs : List X) → total f (filter p xs) ≡ total (λ x. if p x then f x else 0) xs
total-filter f p [] = refl
total-filter f p (x ∷ xs) = by (p x) (total-filter f p xs) where
  by : (b : Bool) → total f (filter p xs) ≡ total (λ y. if p y then f y else 0) xs
      → total f (if b then x ∷ filter p xs else filter p xs) ≡ (if b then f x else 0) + total (λ y. if p y then f y else 0) xs
  by true h = ap (λ (n : ℕ). f x + n) h
  by false h = omega arith

pub total-enumerate : {X : Type 0} (f : X → ℕ) (k : ℕ) (xs : List X) → total (λ x. f x.1) (enumerate_from k xs) ≡ total f xs
total-enumerate f k [] = refl
total-enumerate f k (x ∷ xs) = ap (λ (n : ℕ). f x + n) (total-enumerate f (k + 1) xs)

-- one for each item that a test lets fail
abbrev pub misses : {X : Type 0} → (X → Bool) → X → ℕ
misses p x = if p x then 0 else 1

pub misses-none : {X : Type 0} (p : X → Bool) (xs : List X) → list_all p xs ≡ true → total (misses p) xs ≡ 0
misses-none p [] h = refl
misses-none p (x ∷ xs) h =
    let two = both (p x) (list_all p xs) h in
    let rest = misses-none p xs two.1 in
    rw two.0 (omega arith)

pub all-by_misses : {X : Type 0} (p : X → Bool) (xs : List X) → total (misses p) xs ≡ 0 → list_all p xs ≡ true
all-by_misses p [] h = refl
all-by_misses p (x ∷ xs) h = by (p x) h (all-by_misses p xs) where
  by : (b : Bool) → (if b then 0 else 1) + total (misses p) xs ≡ 0 → (total (misses p) xs ≡ 0 → list_all p xs ≡ true) → (b && list_all p xs) ≡ true
  by true e rest = rest (omega arith)
  by false e rest = absurd (omega arith)

-- how often a text stands there
abbrev pub is_that : List ℕ → List ℕ → ℕ
is_that t y = if same_text t y then 1 else 0

abbrev pub count : List ℕ → List (List ℕ) → ℕ
count t xs = total (is_that t) xs

pub none-by_count : (t : List ℕ) (xs : List (List ℕ)) → count t xs ≡ 0 → list_any (λ y. same_text t y) xs ≡ false
none-by_count t [] h = refl
none-by_count t (x ∷ xs) h = by (same_text t x) h (none-by_count t xs) where
  by : (b : Bool) → (if b then 1 else 0) + count t xs ≡ 0 → (count t xs ≡ 0 → list_any (λ y. same_text t y) xs ≡ false) → (b || list_any (λ y. same_text t y) xs) ≡ false
  by true e rest = absurd (omega arith)
  by false e rest = rest (omega arith)

pub count-none : (t : List ℕ) (xs : List (List ℕ)) → list_any (λ y. same_text t y) xs ≡ false → count t xs ≡ 0
count-none t [] h = refl
count-none t (x ∷ xs) h =
    let two = neither (same_text t x) (list_any (λ y. same_text t y) xs) h in
    let rest = count-none t xs two.1 in
    rw two.0 (omega arith)

pub counts-itself : (t : List ℕ) → is_that t t ≡ 1
counts-itself t = rw (same_text_refl t) refl

-- what stands at most once is distinct
pub distinct-by_counts : (xs : List (List ℕ)) → ((t : List ℕ) → count t xs ≤ 1) → are_distinct same_text xs ≡ true
distinct-by_counts [] h = refl
distinct-by_counts (x ∷ xs) h =
    let one : is_that x x + count x xs ≤ 1 = h x in
    let itself = counts-itself x in
    let none : count x xs ≡ 0 = omega arith in
    let rest = distinct-by_counts xs (λ t. let more : is_that t x + count t xs ≤ 1 = h t in omega arith) in
    rw (none-by_count x xs none) rest
