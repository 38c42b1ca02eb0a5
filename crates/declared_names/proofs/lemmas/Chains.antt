-- Looking up by marks, over a list of anything: what a place leaves out has another mark.
use Rattle.std.proofs.Common.{◌≡◌, ◌<◌, ◌+◌, ◌-◌, ℕ, zero, suc, Bool, true, false, cond, nat_eq, List, [], ◌∷◌, map, length, drop, drop-cons, get_or, add-one, Option, Some, None, refl, sym, ◌∙◌, ap, subst, arith}
use Rattle.std.specs.List.{position_from}
use Rattle.std.proofs.lemmas.Bool.Decides.{nat_tests}
use Rattle.std.proofs.lemmas.List.{length-map, drop-map}
use Rattle.declared_names.proofs.lemmas.Firsts.{found_from}

-- what is left to try from a place on
abbrev pub left_at : {X : Type 0} → (X → Bool) → List X → Option ℕ → Option ℕ
left_at p es None = None
left_at p es (Some i) = position_from p i (drop i es)

-- a place has the mark
abbrev pub HasMark : List ℕ → ℕ → Option ℕ → Type 0
HasMark marks mark None = Unit {0}
HasMark marks mark (Some i) = (i < length marks) × (get_or marks i 0 ≡ mark)

-- how many places are left
abbrev pub left : ℕ → Option ℕ → ℕ
left n None = 0
left n (Some i) = n - i

pub drop-more : {A : Type 0} (k : ℕ) (xs : List A) (x : A) (more : List A) → drop k xs ≡ x ∷ more → drop (suc k) xs ≡ more
drop-more zero [] x more e = cc
drop-more zero (y ∷ ys) x more e = cc
drop-more (suc k) [] x more e = cc
drop-more (suc k) (y ∷ ys) x more e = drop-more k ys x more e

drop-first : (k : ℕ) (xs : List ℕ) (x : ℕ) (more : List ℕ) → drop k xs ≡ x ∷ more → (k < length xs) × (get_or xs k 0 ≡ x)
drop-first zero [] x more e = cc
drop-first zero (y ∷ ys) x more e = (omega arith, cc)
drop-first (suc k) [] x more e = cc
drop-first (suc k) (y ∷ ys) x more e = let h = drop-first k ys x more e in (omega (arith, h.0), h.1)

-- places without the mark may be left out
pub skip : {X : Type 0} (p : X → Bool) (m : X → ℕ) (mark : ℕ) → ((x : X) → p x ≡ true → nat_eq mark (m x) ≡ true) → (xs : List X) (tail : List X) (k : ℕ) → drop k xs ≡ tail
    → left_at p xs (position_from (nat_eq mark) k (map m tail)) ≡ position_from p k tail
skip p m mark h xs [] k e = refl
skip p m mark h xs (x ∷ more) k e =
    go (nat_eq mark (m x)) refl (p x) refl (skip p m mark h xs more (k + 1) (ap (λ (j : ℕ). drop j xs) (add-one k) ∙ drop-more k xs x more e)) where
      go : (b : Bool) → nat_eq mark (m x) ≡ b → (c : Bool) → p x ≡ c
          → left_at p xs (position_from (nat_eq mark) (k + 1) (map m more)) ≡ position_from p (k + 1) more
          → left_at p xs (cond b (Some k) (position_from (nat_eq mark) (k + 1) (map m more))) ≡ cond c (Some k) (position_from p (k + 1) more)
      go true q c r i = ap (position_from p k) e ∙ ap (λ z. cond z (Some k) (position_from p (k + 1) more)) r
      go false q true r i = let w = h x r in cc
      go false q false r i = i

-- what is found has the mark, at no earlier place
pub marked : (mark : ℕ) (marks tail : List ℕ) (k : ℕ) → drop k marks ≡ tail → HasMark marks mark (position_from (nat_eq mark) k tail)
marked mark marks [] k e = tt
marked mark marks (x ∷ more) k e =
    go (nat_eq mark x) refl (marked mark marks more (k + 1) (ap (λ (j : ℕ). drop j marks) (add-one k) ∙ drop-more k marks x more e)) where
      go : (b : Bool) → nat_eq mark x ≡ b → HasMark marks mark (position_from (nat_eq mark) (k + 1) more) → HasMark marks mark (cond b (Some k) (position_from (nat_eq mark) (k + 1) more))
      go true q i = let f = drop-first k marks x more e in (f.0, grind (arith, nat_tests, f.1, q))
      go false q i = i

-- a look-up from a place on lands at a place with the mark
pub goes_on_marked : (marks : List ℕ) (mark k : ℕ) (at : Option ℕ) → at ≡ position_from (nat_eq mark) k (drop k marks) → HasMark marks mark at
goes_on_marked marks mark k at e = let P : Option ℕ → Type 0 = HasMark marks mark in subst P (sym e) (marked mark marks (drop k marks) k refl)

-- fewer places are left
pub fewer : (n i : ℕ) (test : ℕ → Bool) (tail : List ℕ) (at next : Option ℕ) → at ≡ Some i → i < n → next ≡ position_from test (i + 1) tail → left n next < left n at
fewer n i test tail at None a lt e = let P : Option ℕ → Type 0 = λ z. 0 < left n z in subst P (sym a) (omega arith)
fewer n i test tail at (Some r) a lt e =
    let h = found_from test (i + 1) tail r (sym e) in
    let P : Option ℕ → Type 0 = λ z. left n (Some r) < left n z in subst P (sym a) (omega (arith, h))

-- the first of what is left
first_left : {X : Type 0} (xs : List X) (p : X → Bool) (at : Option ℕ) (i : ℕ) (x : X) (all : Option ℕ) → at ≡ Some i → i < length xs → x ≡ get_or xs i x → left_at p xs at ≡ all
    → cond (p x) (Some i) (position_from p (i + 1) (drop (suc i) xs)) ≡ all
first_left xs p at i x all a lt is rest =
    sym (ap (position_from p i) (drop-cons xs i x lt ∙ ap (λ z. z ∷ drop (suc i) xs) (sym is))) ∙ sym (ap (left_at p xs) a) ∙ rest

-- a place that passes the test is the first
pub lands : {X : Type 0} (xs : List X) (p : X → Bool) (at : Option ℕ) (i : ℕ) (x : X) (all : Option ℕ) → at ≡ Some i → i < length xs → x ≡ get_or xs i x → left_at p xs at ≡ all
    → p x ≡ true → Some i ≡ all
lands xs p at i x all a lt is rest holds = sym (ap (λ b. cond b (Some i) (position_from p (i + 1) (drop (suc i) xs))) holds) ∙ first_left xs p at i x all a lt is rest

-- a place that is found lies in the list
pub lies : {X : Type 0} (xs : List X) (m : X → ℕ) (marks : List ℕ) (mark : ℕ) (at : Option ℕ) (i : ℕ) → marks ≡ map m xs → at ≡ Some i → HasMark marks mark at
    → (i < length xs) × (i < length marks) × (get_or marks i 0 ≡ mark)
lies xs m marks mark at i e a h =
    let P : Option ℕ → Type 0 = HasMark marks mark in
    let q = subst P a h in
    let l : length marks ≡ length xs = ap length e ∙ length-map xs m in
    (omega (arith, q.0, l), q.0, q.1)

-- a look-up begins
pub begins : {X : Type 0} (xs : List X) (p : X → Bool) (m : X → ℕ) (marks : List ℕ) (mark : ℕ) (at : Option ℕ) → ((x : X) → p x ≡ true → nat_eq mark (m x) ≡ true)
    → marks ≡ map m xs → at ≡ position_from (nat_eq mark) 0 marks → (left_at p xs at ≡ position_from p 0 xs) × HasMark marks mark at
begins xs p m marks mark at h e f =
    let P : Option ℕ → Type 0 = HasMark marks mark in (
      ap (left_at p xs) (f ∙ ap (position_from (nat_eq mark) 0) e) ∙ skip p m mark h xs xs 0 refl,
      subst P (sym f) (marked mark marks marks 0 refl),
    )

-- a look-up goes on behind a place that fails the test
pub goes_behind : {X : Type 0} (xs : List X) (p : X → Bool) (m : X → ℕ) (marks : List ℕ) (mark : ℕ) (at next : Option ℕ) (i : ℕ) (x : X) (all : Option ℕ)
    → ((x : X) → p x ≡ true → nat_eq mark (m x) ≡ true) → marks ≡ map m xs → at ≡ Some i → i < length xs → x ≡ get_or xs i x → get_or marks i 0 ≡ mark → left_at p xs at ≡ all → p x ≡ false
    → next ≡ position_from (nat_eq (get_or marks i 0)) (i + 1) (drop (i + 1) marks)
    → (left_at p xs next ≡ all) × HasMark marks mark next
goes_behind xs p m marks mark at next i x all h e a lt is g rest fails n =
    let k : next ≡ position_from (nat_eq mark) (i + 1) (drop (i + 1) marks) = n ∙ ap (λ (z : ℕ). position_from (nat_eq z) (i + 1) (drop (i + 1) marks)) g in
    let d : drop (i + 1) marks ≡ map m (drop (i + 1) xs) = ap (drop (i + 1)) e ∙ drop-map m (i + 1) xs in
    let P : Option ℕ → Type 0 = HasMark marks mark in (
      ap (left_at p xs) (k ∙ ap (position_from (nat_eq mark) (i + 1)) d) ∙ skip p m mark h xs (drop (i + 1) xs) (i + 1) refl
          ∙ ap (λ (j : ℕ). position_from p (i + 1) (drop j xs)) (add-one i)
          ∙ sym (ap (λ b. cond b (Some i) (position_from p (i + 1) (drop (suc i) xs))) fails) ∙ first_left xs p at i x all a lt is rest,
      subst P (sym k) (marked mark marks (drop (i + 1) marks) (i + 1) refl),
    )
