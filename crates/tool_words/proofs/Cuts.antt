-- The pieces of a text, one after the other.
use Rattle.std.proofs.Common.{◌≡◌, ℕ, suc, ◌+◌, ◌-◌, ◌<◌, ◌==◌, Bool, true, false, not, cond, List, [], ◌∷◌, length, take, drop, Option, Some, None, refl, sym, ap, ◌∙◌, arith}
use Rattle.std.specs.List.{before_first, after_first, position_or_len, count_by, list_all}
use Rattle.std.specs.Borrow.{Bor}
use Rattle.std.proofs.lemmas.List.{length-drop, take_all}
use Rattle.std.proofs.lemmas.List.Sums.{sum_by-cons}
use Rattle.tool_words.specs.Cut.{cut_at, onto_first}

module _ (mark : ℕ) where
  abbrev is_mark : ℕ → Bool
  is_mark b = b == mark

  cut_by : (b : ℕ) (bs : List ℕ) (here : Bool) → cond (not here) (1 + position_or_len is_mark bs) 0 < suc (length bs)
      → (position_or_len is_mark bs < length bs → cut_at mark bs ≡ before_first is_mark bs ∷ cut_at mark (after_first is_mark bs))
      → cond here ([] ∷ cut_at mark bs) (onto_first b (cut_at mark bs))
      ≡ take (cond (not here) (1 + position_or_len is_mark bs) 0) (b ∷ bs) ∷ cut_at mark (drop (cond (not here) (1 + position_or_len is_mark bs) 0 + 1) (b ∷ bs))
  cut_by b bs true lt rest = refl
  cut_by b bs false lt rest =
      let here : 1 + position_or_len is_mark bs ≡ suc (position_or_len is_mark bs) = omega arith in
      let next : 1 + position_or_len is_mark bs + 1 ≡ suc (position_or_len is_mark bs + 1) = omega arith in
      rw (next, here) (ap (onto_first b) (rest (omega arith)))

  -- cut at the first mark
  pub cut_first : (text : List ℕ) → position_or_len is_mark text < length text → cut_at mark text ≡ before_first is_mark text ∷ cut_at mark (after_first is_mark text)
  cut_first [] lt = absurd (omega arith)
  cut_first (b ∷ bs) lt = cut_by b bs (is_mark b) lt (λ h. cut_first bs h)

  -- the same of its length, where what is after the mark is a range
  pub cut_here : (text : List ℕ) (len : ℕ) → len ≡ position_or_len is_mark text → len < length text
      → cut_at mark text ≡ take len text ∷ cut_at mark (take (length text - (len + 1)) (drop (len + 1) text))
  cut_here text len e lt =
      let all : take (length text - (len + 1)) (drop (len + 1) text) ≡ drop (len + 1) text = take_all (length text - (len + 1)) (drop (len + 1) text) (let e2 = length-drop (len + 1) text in omega arith) in
      rw (all, e) (cut_first text (rw (sym e) lt))

  whole_by : (b : ℕ) (bs : List ℕ) (here : Bool) → cond (not here) (1 + position_or_len is_mark bs) 0 ≡ suc (length bs)
      → (position_or_len is_mark bs ≡ length bs → cut_at mark bs ≡ bs ∷ [])
      → cond here ([] ∷ cut_at mark bs) (onto_first b (cut_at mark bs)) ≡ (b ∷ bs) ∷ []
  whole_by b bs true e rest = absurd (omega arith)
  whole_by b bs false e rest = ap (onto_first b) (rest (omega arith))

  -- one piece where no mark stands
  pub cut_none : (text : List ℕ) → position_or_len is_mark text ≡ length text → cut_at mark text ≡ text ∷ []
  cut_none [] e = refl
  cut_none (b ∷ bs) e = whole_by b bs (is_mark b) e (λ h. cut_none bs h)

  length-onto_first : (b : ℕ) (pieces : List (List ℕ)) (n : ℕ) → length pieces ≡ suc n → length (onto_first b pieces) ≡ suc n
  length-onto_first b [] n e = absurd (omega arith)
  length-onto_first b (piece ∷ pieces) n e = e

  count_from : (b : ℕ) (bs : List ℕ) (here : Bool) → length (cut_at mark bs) ≡ suc (count_by is_mark bs) → length (cond here ([] ∷ cut_at mark bs) (onto_first b (cut_at mark bs))) ≡ suc (cond here 1 0 + count_by is_mark bs)
  count_from b bs true e = omega arith
  count_from b bs false e = length-onto_first b (cut_at mark bs) (0 + count_by is_mark bs) (omega arith)

  -- one more than marks
  pub length-cut_at : (text : List ℕ) → length (cut_at mark text) ≡ suc (count_by is_mark text)
  length-cut_at [] = refl
  length-cut_at (b ∷ bs) = count_from b bs (is_mark b) (length-cut_at bs) ∙ ap suc (sym (sum_by-cons (λ x. cond (is_mark x) 1 0) b bs))

module _ (test : List ℕ → Bool) where
  -- a piece that passes, and then the others
  pub one_passes : (piece : List ℕ) (all others : List (List ℕ)) → all ≡ piece ∷ others → test piece ≡ true → list_all test others ≡ list_all test all
  one_passes piece all others e is = rw (e, is) refl

  -- one that doesn't ends
  pub one_fails : (piece : List ℕ) (all others : List (List ℕ)) → all ≡ piece ∷ others → test piece ≡ false → list_all test all ≡ false
  one_fails piece all others e is = rw (e, is) refl

-- how much of a text is left
abbrev pub left_length : Option (Bor (List ℕ)) → ℕ
left_length None = 0
left_length (Some text) = suc (length text.now)
