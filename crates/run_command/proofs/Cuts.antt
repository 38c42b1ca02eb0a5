-- A text is cut at its first newline.
use Rattle.std.proofs.Common.{◌≡◌, ℕ, zero, suc, ◌+◌, ◌-◌, ◌==◌, Bool, true, false, cond, List, [], ◌∷◌, length, take, drop, Some, None, refl, sym, ap, ◌∙◌, add-one, arith, length-drop}
use Rattle.std.specs.Prelude.{◌≢◌}
use Rattle.std.specs.List.{position, position_from}
use Rattle.std.proofs.Math.Seq.{drop-length}
use Rattle.std.proofs.lemmas.Iterator.Adapters.{position_from-zero}
use Rattle.std.proofs.lemmas.List.{take_all}
use Rattle.run_command.specs.CallLines.{lines_of, onto_first}

abbrev is_newline : ℕ → Bool
is_newline b = b == 10

-- the first line ends at the first newline
first_line : (k j : ℕ) (xs : List ℕ) → position_from is_newline k xs ≡ Some j → (m : ℕ) × (j ≡ k + m) × (lines_of xs ≡ take m xs ∷ lines_of (drop (suc m) xs))
first_line k j [] e = let never : ⊥ = cc in absurd never
first_line k j (x ∷ xs) e = by_test (is_newline x) (λ f. first_line (k + 1) j xs f) e
  where
    by_test : (t : Bool) → (position_from is_newline (k + 1) xs ≡ Some j → (m : ℕ) × (j ≡ k + 1 + m) × (lines_of xs ≡ take m xs ∷ lines_of (drop (suc m) xs)))
        → cond t (Some k) (position_from is_newline (k + 1) xs) ≡ Some j
        → (m : ℕ) × (j ≡ k + m) × (cond t ([] ∷ lines_of xs) (onto_first x (lines_of xs)) ≡ take m (x ∷ xs) ∷ lines_of (drop (suc m) (x ∷ xs)))
    by_test true more f = (0, (let same : k ≡ j = cc in omega arith), refl)
    by_test false more f = let h = more f in (suc h.0, (let at : j ≡ k + 1 + h.0 = h.1 in omega arith), ap (onto_first x) h.2)

pub cut_some : (xs : List ℕ) (i n : ℕ) → Some i ≡ position is_newline xs → n ≡ length xs - (i + 1) → lines_of xs ≡ take i xs ∷ lines_of (take n (drop (i + 1) xs))
cut_some xs i n e many =
    let h = first_line 0 i xs (sym (position_from-zero is_newline xs) ∙ sym e) in
    let at : i ≡ 0 + h.0 = h.1 in
    let same : h.0 ≡ i = omega arith in
    let all : take n (drop (i + 1) xs) ≡ drop (i + 1) xs = take_all n (drop (i + 1) xs) (omega (arith, length-drop (i + 1) xs)) in
    h.2 ∙ ap (λ (m : ℕ). take m xs ∷ lines_of (drop (suc m) xs)) same ∙ ap (λ (m : ℕ). take i xs ∷ lines_of (drop m xs)) (sym (add-one i)) ∙ ap (λ ys. take i xs ∷ lines_of ys) (sym all)

one_line : (k x : ℕ) (xs : List ℕ) → position_from is_newline k (x ∷ xs) ≡ None → lines_of (x ∷ xs) ≡ (x ∷ xs) ∷ []
one_line k x [] e = by_test (is_newline x) e
  where
    by_test : (t : Bool) → cond t (Some k) None ≡ None → cond t ([] ∷ []) ((x ∷ []) ∷ []) ≡ (x ∷ []) ∷ []
    by_test true f = cc
    by_test false f = refl
one_line k x (y ∷ ys) e = by_test (is_newline x) (λ f. one_line (k + 1) y ys f) e
  where
    by_test : (t : Bool) → (position_from is_newline (k + 1) (y ∷ ys) ≡ None → lines_of (y ∷ ys) ≡ (y ∷ ys) ∷ [])
        → cond t (Some k) (position_from is_newline (k + 1) (y ∷ ys)) ≡ None → cond t ([] ∷ lines_of (y ∷ ys)) (onto_first x (lines_of (y ∷ ys))) ≡ (x ∷ y ∷ ys) ∷ []
    by_test true more f = cc
    by_test false more f = ap (onto_first x) (more f)

nothing_taken : (n : ℕ) → ◌≡◌ {A = List ℕ} (take n []) []
nothing_taken zero = refl
nothing_taken (suc n) = refl

pub cut_none : (xs : List ℕ) (n : ℕ) → None ≡ position is_newline xs → xs ≢ [] → lines_of xs ≡ xs ∷ lines_of (take n (drop (length xs) xs))
cut_none [] n e ne = absurd (ne refl)
cut_none (x ∷ xs) n e ne =
    let none : take n (drop (length (x ∷ xs)) (x ∷ xs)) ≡ [] = ap (take n) (drop-length (x ∷ xs)) ∙ nothing_taken n in
    one_line 0 x xs (sym (position_from-zero is_newline (x ∷ xs)) ∙ sym e) ∙ ap (λ ys. (x ∷ xs) ∷ lines_of ys) (sym none)
