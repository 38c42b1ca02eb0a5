-- Lists that are made one item after the other, and what they contain.
use Rattle.std.proofs.Common.{◌≡◌, ℕ, zero, suc, ◌+◌, ◌<◌, ◌⊎◌, inl, inr, Bool, true, false, List, [], ◌∷◌, ◌++◌, map, length, Some, slice_get, refl, sym, ap, ◌∙◌, arith}
use Rattle.std.specs.Prelude.{Contains}
use Rattle.std.specs.List.{range_with_len}
use Rattle.std.proofs.lemmas.List.FromFn.{map-range_with_len_more, length-map-range_with_len, get_or-map-range_with_len, length-range_with_len, get_or-range_with_len}
use Rattle.std.proofs.lemmas.Option.{slice_get-get_or}

module _ {X : Type 0} (f : ℕ → X) where
  -- one more item
  pub pushed : (n : ℕ) (old new : List X) (x : X) → old ≡ map f (range_with_len 0 n) → x ≡ f n → new ≡ old ++ x ∷ [] → new ≡ map f (range_with_len 0 (n + 1))
  pushed n old new x was is e = e ∙ ap (λ xs. xs ++ x ∷ []) was ∙ ap (λ y. map f (range_with_len 0 n) ++ y ∷ []) is ∙ sym (map-range_with_len_more f 0 n n (omega arith))

  pub made_at : (len n : ℕ) → n < len → slice_get (map f (range_with_len 0 len)) n ≡ Some (f n)
  made_at len n lt =
      slice_get-get_or (map f (range_with_len 0 len)) n (f n) (omega (arith, length-map-range_with_len f 0 len))
      ∙ ap Some (get_or-map-range_with_len f 0 len n n (f n) lt (omega arith))

map_same : (xs : List ℕ) → map (λ n. n) xs ≡ xs
map_same [] = refl
map_same (x ∷ xs) = ap (λ ys. x ∷ ys) (map_same xs)

-- one more number
pub counted : (n : ℕ) (old new : List ℕ) → old ≡ range_with_len 0 n → new ≡ old ++ n ∷ [] → new ≡ range_with_len 0 (n + 1)
counted n old new was e = pushed (λ k. k) n old new n (was ∙ sym (map_same (range_with_len 0 n))) refl e ∙ map_same (range_with_len 0 (n + 1))

module _ {X : Type 0} where
  pub in_front : (xs ys : List X) (n : ℕ) → n < length xs → slice_get (xs ++ ys) n ≡ slice_get xs n
  in_front [] ys n lt = absurd (omega arith)
  in_front (x ∷ xs) ys zero lt = refl
  in_front (x ∷ xs) ys (suc n) lt = in_front xs ys n (omega arith)

  pub behind : (xs : List X) (y : X) → slice_get (xs ++ y ∷ []) (length xs) ≡ Some y
  behind [] y = refl
  behind (x ∷ xs) y = behind xs y

  -- what two lists contain together
  pub of_either : (xs ys : List X) (x : X) → Contains (xs ++ ys) x → Contains xs x ⊎ Contains ys x
  of_either [] ys x h = inr h
  of_either (y ∷ xs) ys x (zero, lt, e) = inl (zero, omega arith, e)
  of_either (y ∷ xs) ys x (suc k, lt, e) = elim (of_either xs ys x (k, omega arith, e)) [ inl h ↦ inl (suc h.0, omega (arith, h.1), h.2) | inr h ↦ inr h ]

  pub of_first : (xs ys : List X) (x : X) → Contains xs x → Contains (xs ++ ys) x
  of_first [] ys x h = absurd (omega (arith, h.1))
  of_first (y ∷ xs) ys x (zero, lt, e) = (zero, omega arith, e)
  of_first (y ∷ xs) ys x (suc k, lt, e) = let later = of_first xs ys x (k, omega arith, e) in (suc later.0, omega (arith, later.1), later.2)

  pub of_second : (xs ys : List X) (x : X) → Contains ys x → Contains (xs ++ ys) x
  of_second [] ys x h = h
  of_second (y ∷ xs) ys x h = let later = of_second xs ys x h in (suc later.0, omega (arith, later.1), later.2)

-- all numbers below one
pub all_below : (len n : ℕ) → n < len → Contains (range_with_len 0 len) n
all_below len n lt = (n, omega (arith, length-range_with_len 0 len), get_or-range_with_len 0 len n n lt ∙ omega arith)

-- tests that say the same
pub same_test : (a b : Bool) → (a ≡ true → b ≡ true) → (b ≡ true → a ≡ true) → a ≡ b
same_test true b f g = sym (f refl)
same_test false true f g = g refl
same_test false false f g = refl
