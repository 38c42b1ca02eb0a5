-- The earliest place to which things lead, gathered along a chain of those with a mark.
use Rattle.std.proofs.Common.{◌≡◌, ◌<◌, ◌≤◌, ◌+◌, ◌-◌, ◌⊎◌, inl, inr, ℕ, zero, suc, Bool, true, false, cond, nat_eq, nat_lt, List, [], ◌∷◌, map, length, drop, get_or, Option, Some, None, refl, sym, ◌∙◌, ap, subst, arith, eq-eqb}
use Rattle.std.specs.List.{position_from, slice_get}
use Rattle.std.proofs.lemmas.Bool.Decides.{nat_tests}
use Rattle.std.proofs.lemmas.List.{drop-map}
use Rattle.std.proofs.lemmas.Option.{slice_get_within, get_or_from_slice_get}
use Rattle.name_resolution.specs.steps.Behind.{earlier}
use Rattle.declared_names.proofs.lemmas.Firsts.{found-first}

-- a place is still ahead
abbrev pub IsAhead : Option ℕ → ℕ → Type 0
IsAhead None y = ⊥
IsAhead (Some a) y = a ≤ y

-- a place that was found is no later
abbrev pub IsAtMost : Option ℕ → ℕ → Type 0
IsAtMost None j = ⊥
IsAtMost (Some b) j = b ≤ j

-- what was found is right
abbrev pub IsRight : (ℕ → Bool) → Option ℕ → Type 0
IsRight good best = (j : ℕ) → best ≡ Some j → good j ≡ true

earlier_left : (best other : Option ℕ) (j : ℕ) → IsAtMost best j → IsAtMost (earlier best other) j
earlier_left None other j h = absurd h
earlier_left (Some b) None j h = h
earlier_left (Some b) (Some o) j h = go (nat_lt o b) refl where
  go : (t : Bool) → nat_lt o b ≡ t → IsAtMost (cond t (Some o) (Some b)) j
  go true e = grind (arith, nat_tests, e, h)
  go false e = h

earlier_right : (best other : Option ℕ) (j : ℕ) → other ≡ Some j → IsAtMost (earlier best other) j
earlier_right None other j e = let P : Option ℕ → Type 0 = λ z. IsAtMost z j in subst P (sym e) (omega arith)
earlier_right (Some b) None j e = cc
earlier_right (Some b) (Some o) j e = go (nat_lt o b) refl where
  s : o ≡ j
  s = cc

  go : (t : Bool) → nat_lt o b ≡ t → IsAtMost (cond t (Some o) (Some b)) j
  go true q = omega (arith, s)
  go false q = grind (arith, nat_tests, q, s)

-- the earlier of two that are right is
pub earlier_right_too : (good : ℕ → Bool) (best other : Option ℕ) → IsRight good best → IsRight good other → IsRight good (earlier best other)
earlier_right_too good None other g h = h
earlier_right_too good (Some b) None g h = g
earlier_right_too good (Some b) (Some o) g h = go (nat_lt o b) where
  go : (t : Bool) → IsRight good (cond t (Some o) (Some b))
  go true = h
  go false = g

slice_get_drop : {E : Type 0} (xs : List E) (k d : ℕ) → slice_get (drop k xs) d ≡ slice_get xs (k + d)
slice_get_drop xs zero d = let z : d ≡ 0 + d = omega arith in ap (slice_get xs) z
slice_get_drop [] (suc k) d = refl
slice_get_drop (x ∷ xs) (suc k) d = let z : suc k + d ≡ suc (k + d) = omega arith in slice_get_drop xs k d ∙ ap (slice_get (x ∷ xs)) (sym z)

-- what stands at a place with the mark
pub stands : {E : Type 0} (mark : E → ℕ) (wanted : ℕ) (xs : List E) (i : ℕ) → i < length (map mark xs) → get_or (map mark xs) i 0 ≡ wanted → (x : E) × (slice_get xs i ≡ Some x) × (mark x ≡ wanted)
stands mark wanted [] i lt m = absurd (omega arith)
stands mark wanted (x ∷ xs) zero lt m = (x, refl, m)
stands mark wanted (x ∷ xs) (suc i) lt m = stands mark wanted xs i (omega arith) m

module _ {E : Type 0} (mark : E → ℕ) (wanted : ℕ) where
  -- the first place with the mark is no later than another one
  reached : (k : ℕ) (xs : List E) (y : ℕ) (e : E) → slice_get xs y ≡ Some e → mark e ≡ wanted → (r : ℕ) × (position_from (nat_eq wanted) k (map mark xs) ≡ Some r) × (r ≤ k + y)
  reached k [] y e is m = cc
  reached k (x ∷ xs) zero e is m =
      let s : x ≡ e = cc in
      let t : nat_eq wanted (mark x) ≡ true = eq-eqb wanted (mark x) (sym m ∙ ap mark (sym s)) in
      (k, ap (λ b. cond b (Some k) (position_from (nat_eq wanted) (k + 1) (map mark xs))) t, omega arith)
  reached k (x ∷ xs) (suc y) e is m =
      let w = reached (k + 1) xs y e is m in
      go (nat_eq wanted (mark x)) w.0 w.1 w.2 where
        go : (b : Bool) (r : ℕ) → position_from (nat_eq wanted) (k + 1) (map mark xs) ≡ Some r → r ≤ k + 1 + y
            → (q : ℕ) × (cond b (Some k) (position_from (nat_eq wanted) (k + 1) (map mark xs)) ≡ Some q) × (q ≤ k + suc y)
        go true r h l = (k, refl, omega arith)
        go false r h l = (r, h, omega arith)

  module _ (lead : E → Option ℕ) (ends : List E) where
    -- where anything with the mark leads, it stands ahead, or no later place was found
    abbrev pub Covers : Option ℕ → Option ℕ → Type 0
    Covers at best = (y : ℕ) (e : E) → slice_get ends y ≡ Some e → mark e ≡ wanted → (j : ℕ) → lead e ≡ Some j → IsAhead at y ⊎ IsAtMost best j

    pub covers_first : (at : Option ℕ) → at ≡ position_from (nat_eq wanted) 0 (map mark ends) → Covers at None
    covers_first at a y e is m j l =
        let w = reached 0 ends y e is m in
        let P : Option ℕ → Type 0 = λ z. IsAhead z y in
        let q : w.0 ≤ y = omega (arith, w.2) in
        inl (subst P (sym (a ∙ w.1)) q)

    pub covers_next : (at next best other : Option ℕ) (i : ℕ) (x : E) → at ≡ Some i → slice_get ends i ≡ Some x → mark x ≡ wanted → other ≡ lead x
        → next ≡ position_from (nat_eq wanted) (i + 1) (drop (i + 1) (map mark ends)) → Covers at best → Covers next (earlier best other)
    covers_next at next best other i x a here m o n c y e is em j l = go (c y e is em j l) where
      later : i ≤ y → (b : Bool) → nat_eq y i ≡ b → IsAhead next y ⊎ IsAtMost (earlier best other) j
      later le true b =
          let s : y ≡ i = grind (arith, nat_tests, b) in
          let q : Some e ≡ Some x = sym is ∙ ap (slice_get ends) s ∙ here in
          let z : e ≡ x = cc in
          inr (earlier_right best other j (o ∙ ap lead (sym z) ∙ l))
      later le false b =
          let d : ℕ = y - (i + 1) in
          let s : i + 1 + d ≡ y = grind (arith, nat_tests, b, le) in
          let w = reached (i + 1) (drop (i + 1) ends) d e (slice_get_drop ends (i + 1) d ∙ ap (slice_get ends) s ∙ is) em in
          let P : Option ℕ → Type 0 = λ z. IsAhead z y in
          let q : w.0 ≤ y = omega (arith, w.2, s) in
          inl (subst P (sym (n ∙ ap (position_from (nat_eq wanted) (i + 1)) (drop-map mark (i + 1) ends) ∙ w.1)) q)

      go : IsAhead at y ⊎ IsAtMost best j → IsAhead next y ⊎ IsAtMost (earlier best other) j
      go (inl h) = let P : Option ℕ → Type 0 = λ z. IsAhead z y in later (subst P a h) (nat_eq y i) refl
      go (inr h) = inr (earlier_left best other j h)

    -- where nothing is ahead the first place that passes a test was found, if something with the mark leads there or before
    pub settled : {X : Type 0} (p : X → Bool) (xs : List X) (good : ℕ → Bool) (best : Option ℕ)
        → ((j : ℕ) → good j ≡ true → (x : X) × (slice_get xs j ≡ Some x) × (p x ≡ true))
        → ((j : ℕ) → position_from p 0 xs ≡ Some j → (y : ℕ) × (e : E) × (slice_get ends y ≡ Some e) × (mark e ≡ wanted) × (r : ℕ) × (lead e ≡ Some r) × (r ≤ j))
        → Covers None best → IsRight good best → best ≡ position_from p 0 xs
    settled p xs good best sound leads c right = go (position_from p 0 xs) refl best refl where
      first : (b : ℕ) → best ≡ Some b → (r : ℕ) × (position_from p 0 xs ≡ Some r) × (r ≤ b)
      first b e =
          let w = sound b (right b e) in
          let f = found-first p 0 xs b w.0 (slice_get_within xs b w.0 w.1) (sym (get_or_from_slice_get xs b w.0 w.0 w.1)) w.2 in
          (f.0, f.1, omega (arith, f.2))

      go : (o : Option ℕ) → position_from p 0 xs ≡ o → (b : Option ℕ) → best ≡ b → b ≡ o
      go None e None q = refl
      go None e (Some b) q = let f = first b q in cc
      go (Some j) e b q =
          let w = leads j e in
          let P : Option ℕ → Type 0 = λ z. IsAtMost z w.4 in
          found j e b q w.4 w.6 (either (c w.0 w.1 w.2 w.3 w.4 w.5)) where
            either : {B : Type 0} → ⊥ ⊎ B → B
            either (inl h) = absurd h
            either (inr h) = h

            found : (j : ℕ) → position_from p 0 xs ≡ Some j → (b : Option ℕ) → best ≡ b → (r : ℕ) → r ≤ j → IsAtMost best r → b ≡ Some j
            found j e None q r l h = let P : Option ℕ → Type 0 = λ z. IsAtMost z r in absurd (subst P q h)
            found j e (Some b) q r l h =
                let P : Option ℕ → Type 0 = λ z. IsAtMost z r in
                let m : b ≤ r = subst P q h in
                let f = first b q in
                let s : Some f.0 ≡ Some j = sym f.1 ∙ e in
                let t : f.0 ≡ j = cc in
                let u : b ≡ j = omega (arith, m, l, f.2, t) in
                ap Some u
