-- Numbers that ascend from one on and stay below another.
use Rattle.std.proofs.Common.{ℕ, ◌+◌, ◌<◌, ◌≤◌, List, [], ◌∷◌, ◌++◌, arith}
use Rattle.std.specs.List.{All, AllPairs}
use Rattle.std.specs.List.Sorted.{IsStrictlyIncreasing}
use Rattle.std.proofs.lemmas.List.Elements.{All-nil, All-cons}
use Rattle.std.proofs.lemmas.List.Kept.{AllPairs-cons}

abbrev pub Rises : ℕ → List ℕ → ℕ → Type 0
Rises low [] high = low ≤ high
Rises low (x ∷ xs) high = (low ≤ x) × Rises (x + 1) xs high

pub bounded : (xs : List ℕ) (low high : ℕ) → Rises low xs high → low ≤ high
bounded [] low high h = h
bounded (x ∷ xs) low high (le, more) = let r : x + 1 ≤ high = bounded xs (x + 1) high more in omega arith

pub from_lower : (xs : List ℕ) (k low high : ℕ) → k ≤ low → Rises low xs high → Rises k xs high
from_lower [] k low high le h = omega arith
from_lower (x ∷ xs) k low high le (first, more) = (omega arith, more)

-- between two lists one after another there is a number
pub apart : (xs ys : List ℕ) (low high : ℕ) → Rises low (xs ++ ys) high → (mid : ℕ) × Rises low xs mid × Rises mid ys high
apart [] ys low high h = (low, omega arith, h)
apart (x ∷ xs) ys low high (le, more) = let s = apart xs ys (x + 1) high more in (s.0, (le, s.1), s.2)

pub together : (xs ys : List ℕ) (low mid high : ℕ) → Rises low xs mid → Rises mid ys high → Rises low (xs ++ ys) high
together [] ys low mid high h k = from_lower ys low mid high h k
together (x ∷ xs) ys low mid high (le, more) k = (le, together xs ys (x + 1) mid high more k)

pub below : (xs : List ℕ) (low high : ℕ) → Rises low xs high → All (λ x. x < high) xs
below [] low high h = All-nil (λ x. x < high)
below (x ∷ xs) low high (le, more) =
    let r : x + 1 ≤ high = bounded xs (x + 1) high more in
    All-cons (λ y. y < high) x xs (omega arith) (below xs (x + 1) high more)

above : (xs : List ℕ) (k low high : ℕ) → k < low → Rises low xs high → All (λ x. k < x) xs
above [] k low high lt h = All-nil (λ x. k < x)
above (x ∷ xs) k low high lt (le, more) = All-cons (λ y. k < y) x xs (omega arith) (above xs k (x + 1) high (omega arith) more)

pairs : (xs : List ℕ) (low high : ℕ) → Rises low xs high → AllPairs (λ x y. x < y) xs
pairs [] low high h = λ i j d lt within. absurd (omega arith)
pairs (x ∷ xs) low high (le, more) = AllPairs-cons (λ a b. a < b) x xs (above xs x (x + 1) high (omega arith) more) (pairs xs (x + 1) high more)

pub increasing : (xs : List ℕ) (low high : ℕ) → Rises low xs high → IsStrictlyIncreasing xs
increasing xs low high h k within = pairs xs low high h k (k + 1) 0 (omega arith) within
