-- Loops over a list in which each thing is tried, alone or with those before it.
use Rattle.std.proofs.Common.{◌≡◌, ◌<◌, ◌+◌, ℕ, zero, suc, Bool, true, false, cond, if◌then◌else◌, List, [], ◌∷◌, ◌++◌, map, length, take, drop, get_or, drop-cons, add-one, refl, sym, ◌∙◌, ap, append_assoc, arith}
use Rattle.std.specs.List.{filter}
use Rattle.declared_names.specs.Numbered.{after_earlier}

-- what is added, and then what is still left, is all
pub goes_on : {B : Type 0} (rows new extra rest later all : List B) → new ≡ rows ++ extra → rest ≡ extra ++ later → rows ++ rest ≡ all → new ++ later ≡ all
goes_on rows new extra rest later all n r e = ap (λ z. z ++ later) n ∙ append_assoc rows extra later ∙ ap (λ z. rows ++ z) (sym r) ∙ e

-- one thing where a test says so
abbrev pub one_if : {B : Type 0} → Bool → B → List B
one_if b x = if b then x ∷ [] else []

map-one_if : {A B : Type 0} (g : A → B) (b : Bool) (x : A) (rest : List A) → map g (one_if b x ++ rest) ≡ one_if b (g x) ++ map g rest
map-one_if g true x rest = refl
map-one_if g false x rest = refl

-- the next of the things that pass a test
pub filter-next : {A B : Type 0} (g : A → B) (p : A → Bool) (xs : List A) (i : ℕ) (x : A) → i < length xs → x ≡ get_or xs i x
    → map g (filter p (drop i xs)) ≡ one_if (p x) (g x) ++ map g (filter p (drop (i + 1) xs))
filter-next g p xs i x lt is = ap (λ z. map g (filter p z)) (drop-cons xs i x lt ∙ ap (λ z. z ∷ drop (suc i) xs) (sym is)) ∙ go (p x) ∙ ap (λ (j : ℕ). one_if (p x) (g x) ++ map g (filter p (drop j xs))) (sym (add-one i)) where
  go : (b : Bool) → map g (cond b (x ∷ filter p (drop (suc i) xs)) (filter p (drop (suc i) xs))) ≡ one_if b (g x) ++ map g (filter p (drop (suc i) xs))
  go true = refl
  go false = refl

-- one more of the first
pub take-next : {A : Type 0} (xs : List A) (i : ℕ) (x : A) → i < length xs → x ≡ get_or xs i x → take (suc i) xs ≡ take i xs ++ x ∷ []
take-next [] i x lt is = absurd (omega arith)
take-next (y ∷ ys) zero x lt is = ap (λ z. z ∷ []) (sym is)
take-next (y ∷ ys) (suc i) x lt is = ap (λ z. y ∷ z) (take-next ys i x (omega arith) is)

-- the next of the things that pass a test with those before them
pub earlier-next : {A B : Type 0} (g : A → B) (test : List A → A → Bool) (xs : List A) (i : ℕ) (x : A) → i < length xs → x ≡ get_or xs i x
    → map g (after_earlier test (take i xs) (drop i xs)) ≡ one_if (test (take i xs) x) (g x) ++ map g (after_earlier test (take (i + 1) xs) (drop (i + 1) xs))
earlier-next g test xs i x lt is =
    ap (λ z. map g (after_earlier test (take i xs) z)) (drop-cons xs i x lt ∙ ap (λ z. z ∷ drop (suc i) xs) (sym is))
    ∙ map-one_if g (test (take i xs) x) x _
    ∙ ap (λ z. one_if (test (take i xs) x) (g x) ++ map g (after_earlier test z (drop (suc i) xs))) (sym (take-next xs i x lt is))
    ∙ ap (λ (j : ℕ). one_if (test (take i xs) x) (g x) ++ map g (after_earlier test (take j xs) (drop j xs))) (sym (add-one i))

-- what is read of a list is read of what f makes of it
pub read-map : {A B : Type 0} (f : A → B) (xs : List A) (i : ℕ) (x : A) → i < length xs → x ≡ get_or xs i x → (i < length (map f xs)) × (f x ≡ get_or (map f xs) i (f x))
read-map f [] i x lt is = absurd (omega arith)
read-map f (y ∷ ys) zero x lt is = (omega arith, ap f is)
read-map f (y ∷ ys) (suc i) x lt is = let h = read-map f ys i x (omega arith) is in (omega (arith, h.0), h.1)
