-- Lists that match one for one.
use Rattle.std.proofs.Common.{◌≡◌, ℕ, zero, suc, List, [], ◌∷◌, ◌++◌, length, take, drop, Some, slice_get, refl, ap, subst}
use Rattle.marshal_plans.specs.Standing.{OneForOne}

module _ {X Y : Type 0} (R : X → Y → Type 0) where
  pub same_length : (xs : List X) (ys : List Y) → OneForOne R xs ys → length xs ≡ length ys
  same_length [] [] h = refl
  same_length [] (y ∷ ys) h = elim h [ ]
  same_length (x ∷ xs) [] h = elim h [ ]
  same_length (x ∷ xs) (y ∷ ys) h = ap suc (same_length xs ys h.1)

  pub both_more : (xs : List X) (ys : List Y) (us : List X) (vs : List Y) → OneForOne R xs ys → OneForOne R us vs → OneForOne R (xs ++ us) (ys ++ vs)
  both_more [] [] us vs h k = k
  both_more [] (y ∷ ys) us vs h k = elim h [ ]
  both_more (x ∷ xs) [] us vs h k = elim h [ ]
  both_more (x ∷ xs) (y ∷ ys) us vs h k = (h.0, both_more xs ys us vs h.1 k)

  pub matched : (xs : List X) (ys : List Y) (k : ℕ) (x : X) → OneForOne R xs ys → slice_get xs k ≡ Some x → (y : Y) × (slice_get ys k ≡ Some y) × R x y
  matched [] [] k x h at = absurd cc
  matched [] (y ∷ ys) k x h at = elim h [ ]
  matched (z ∷ xs) [] k x h at = elim h [ ]
  matched (z ∷ xs) (y ∷ ys) zero x h at = let same : z ≡ x = cc in (y, refl, subst (λ w. R w y) same h.0)
  matched (z ∷ xs) (y ∷ ys) (suc k) x h at = matched xs ys k x h.1 at

  -- with what stands there on the other side
  pub matched_with : (xs : List X) (ys : List Y) (k : ℕ) (x : X) (y : Y) → OneForOne R xs ys → slice_get xs k ≡ Some x → slice_get ys k ≡ Some y → R x y
  matched_with xs ys k x y h at there =
      let m = matched xs ys k x h at in
      let same : m.0 ≡ y = let p = m.1 in cc in
      subst (λ w. R x w) same m.2

  pub matched_back : (xs : List X) (ys : List Y) (k : ℕ) (y : Y) → OneForOne R xs ys → slice_get ys k ≡ Some y → (x : X) × (slice_get xs k ≡ Some x) × R x y
  matched_back [] [] k y h at = absurd cc
  matched_back [] (z ∷ ys) k y h at = elim h [ ]
  matched_back (x ∷ xs) [] k y h at = elim h [ ]
  matched_back (x ∷ xs) (z ∷ ys) zero y h at = let same : z ≡ y = cc in (x, refl, subst (λ w. R x w) same h.0)
  matched_back (x ∷ xs) (z ∷ ys) (suc k) y h at = matched_back xs ys k y h.1 at

  pub front_matches : (xs us : List X) (ys : List Y) → OneForOne R (xs ++ us) ys → OneForOne R xs (take (length xs) ys)
  front_matches [] us ys h = tt
  front_matches (x ∷ xs) us [] h = elim h [ ]
  front_matches (x ∷ xs) us (y ∷ ys) h = (h.0, front_matches xs us ys h.1)

  pub rest_matches : (xs us : List X) (ys : List Y) → OneForOne R (xs ++ us) ys → OneForOne R us (drop (length xs) ys)
  rest_matches [] us ys h = h
  rest_matches (x ∷ xs) us [] h = elim h [ ]
  rest_matches (x ∷ xs) us (y ∷ ys) h = rest_matches xs us ys h.1

pub weaker : {X Y : Type 0} (R Q : X → Y → Type 0) → ((x : X) (y : Y) → R x y → Q x y) → (xs : List X) (ys : List Y) → OneForOne R xs ys → OneForOne Q xs ys
weaker R Q f [] [] h = tt
weaker R Q f [] (y ∷ ys) h = elim h [ ]
weaker R Q f (x ∷ xs) [] h = elim h [ ]
weaker R Q f (x ∷ xs) (y ∷ ys) h = (f x y h.0, weaker R Q f xs ys h.1)

pub get_front : {X : Type 0} (xs ys : List X) (k : ℕ) (x : X) → slice_get xs k ≡ Some x → slice_get (xs ++ ys) k ≡ Some x
get_front [] ys k x at = absurd cc
get_front (z ∷ xs) ys zero x at = at
get_front (z ∷ xs) ys (suc k) x at = get_front xs ys k x at

pub get_last : {X : Type 0} (xs : List X) (x : X) → slice_get (xs ++ x ∷ []) (length xs) ≡ Some x
get_last [] x = refl
get_last (y ∷ xs) x = get_last xs x
