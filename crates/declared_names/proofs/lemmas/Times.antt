-- How often a mark stands in a list, along the chain of its places.
use Rattle.std.proofs.Common.{◌≡◌, ◌<◌, ◌+◌, ℕ, zero, suc, Bool, true, false, cond, nat_eq, nat_lt, is_some, List, [], ◌∷◌, length, drop, get_or, add-one, Option, Some, None, refl, sym, ◌∙◌, ap, subst, arith}
use Rattle.std.specs.List.{filter, position_from}
use Rattle.std.proofs.lemmas.Bool.Decides.{nat_tests}
use Rattle.declared_names.specs.Times.{times}
use Rattle.declared_names.proofs.lemmas.Chains.{HasMark, drop-more, goes_on_marked}

-- at how many places from one on
abbrev pub times_at : ℕ → List ℕ → Option ℕ → ℕ
times_at mark marks None = 0
times_at mark marks (Some i) = times mark (drop i marks)

-- places without the mark may be left out
skipped : (mark : ℕ) (marks tail : List ℕ) (k : ℕ) → drop k marks ≡ tail → times_at mark marks (position_from (nat_eq mark) k tail) ≡ times mark tail
skipped mark marks [] k e = refl
skipped mark marks (m ∷ more) k e = go (nat_eq mark m) refl (skipped mark marks more (k + 1) (ap (λ (j : ℕ). drop j marks) (add-one k) ∙ drop-more k marks m more e)) where
  go : (b : Bool) → nat_eq mark m ≡ b → times_at mark marks (position_from (nat_eq mark) (k + 1) more) ≡ times mark more
      → times_at mark marks (cond b (Some k) (position_from (nat_eq mark) (k + 1) more)) ≡ length (cond b (m ∷ filter (nat_eq mark) more) (filter (nat_eq mark) more))
  go true q h = ap (times mark) e ∙ ap (λ b. length (cond b (m ∷ filter (nat_eq mark) more) (filter (nat_eq mark) more))) q
  go false q h = h

-- a chain begins
pub times_begin : (mark : ℕ) (marks : List ℕ) (at : Option ℕ) → at ≡ position_from (nat_eq mark) 0 marks → times_at mark marks at ≡ times mark marks
times_begin mark marks at e = ap (times_at mark marks) e ∙ skipped mark marks marks 0 refl

-- from a place to the next one it is one less
pub times_next : (mark : ℕ) (marks : List ℕ) (at next : Option ℕ) (i : ℕ) → at ≡ Some i → HasMark marks mark at → next ≡ position_from (nat_eq (get_or marks i 0)) (i + 1) (drop (i + 1) marks)
    → times_at mark marks at ≡ suc (times_at mark marks next)
times_next mark marks at next i a h n =
    let P : Option ℕ → Type 0 = HasMark marks mark in
    let q = subst P a h in
    let x : ℕ = get_or marks i 0 in
    let t : nat_eq mark x ≡ true = grind (arith, nat_tests, q.1) in
    let k : times_at mark marks next ≡ times mark (drop (i + 1) marks) =
    ap (times_at mark marks) (n ∙ ap (λ (z : ℕ). position_from (nat_eq z) (i + 1) (drop (i + 1) marks)) q.1) ∙ skipped mark marks (drop (i + 1) marks) (i + 1) refl in
    ap (times_at mark marks) a ∙ ap (times mark) (first marks i q.0)
    ∙ ap (λ b. length (cond b (x ∷ filter (nat_eq mark) (drop (suc i) marks)) (filter (nat_eq mark) (drop (suc i) marks)))) t
    ∙ ap (λ (j : ℕ). suc (times mark (drop j marks))) (sym (add-one i)) ∙ ap suc (sym k) where
      first : (ms : List ℕ) (i : ℕ) → i < length ms → drop i ms ≡ get_or ms i 0 ∷ drop (suc i) ms
      first [] i lt = absurd (omega arith)
      first (m ∷ ms) zero lt = refl
      first (m ∷ ms) (suc i) lt = first ms i (omega arith)

-- Two chains side by side.

pub both_next : (a b c d : ℕ) (all : Bool) → a ≡ suc c → b ≡ suc d → nat_lt a b ≡ all → nat_lt c d ≡ all
both_next a b c d all p q e = go (nat_lt c d) refl ∙ e where
  go : (t : Bool) → nat_lt c d ≡ t → nat_lt c d ≡ nat_lt a b
  go true h = grind (arith, nat_tests, h, p, q)
  go false h = grind (arith, nat_tests, h, p, q)

-- Whether there are two places.

pub twice : (mark : ℕ) (marks : List ℕ) (i : ℕ) (next : Option ℕ) → Some i ≡ position_from (nat_eq mark) 0 marks → next ≡ position_from (nat_eq (get_or marks i 0)) (i + 1) (drop (i + 1) marks)
    → is_some next ≡ nat_lt 1 (times mark marks)
twice mark marks i next e n = go next refl where
  h : HasMark marks mark (Some i)
  h = goes_on_marked marks mark 0 (Some i) e

  q : next ≡ position_from (nat_eq mark) (i + 1) (drop (i + 1) marks)
  q = n ∙ ap (λ (z : ℕ). position_from (nat_eq z) (i + 1) (drop (i + 1) marks)) h.1

  all : times mark marks ≡ suc (times_at mark marks next)
  all = sym (times_begin mark marks (Some i) e) ∙ times_next mark marks (Some i) next i refl h n

  go : (o : Option ℕ) → next ≡ o → is_some o ≡ nat_lt 1 (times mark marks)
  go None p =
      let z : times mark marks ≡ 1 = all ∙ ap (λ (o : Option ℕ). suc (times_at mark marks o)) p in
      ap (nat_lt 1) (sym z)
  go (Some j) p =
      let later : Option ℕ = position_from (nat_eq (get_or marks j 0)) (j + 1) (drop (j + 1) marks) in
      let z : times mark marks ≡ suc (suc (times_at mark marks later)) =
      all ∙ ap (λ (o : Option ℕ). suc (times_at mark marks o)) p
      ∙ ap suc (times_next mark marks (Some j) later j refl (goes_on_marked marks mark (i + 1) (Some j) (sym p ∙ q)) refl) in
      let t : nat_lt 1 (times mark marks) ≡ true = grind (arith, nat_tests, z) in
      sym t

pub not_twice : (mark : ℕ) (marks : List ℕ) → None ≡ position_from (nat_eq mark) 0 marks → false ≡ nat_lt 1 (times mark marks)
not_twice mark marks e = ap (nat_lt 1) (times_begin mark marks None e)
