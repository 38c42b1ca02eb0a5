-- Loops over lists that add what each item breaks.
use Rattle.std.proofs.Common.{◌≡◌, ℕ, suc, ◌+◌, ◌-◌, ◌<◌, ◌≤◌, Bool, true, false, List, [], ◌∷◌, ◌++◌, map, length, take, get_or, Option, Some, None, slice_get, refl, sym, ap, ◌∙◌, subst, arith}
use Rattle.std.specs.List.{find, flat_map, position_from}
use Rattle.std.proofs.lemmas.List.{append-nil}
use Rattle.std.proofs.lemmas.List.Concat.{flat_map-append}
use Rattle.aidl_base.proofs.lemmas.Lists.{take_further, take_to_end}
use Rattle.aidl_schema.specs.Broken.{Break, Place, if_found, is_there_and, of_rule, place_if, places, with_found}
use Rattle.compat_judge.specs.declared.findings.Findings.{Findings}
use Rattle.compat_judge.specs.steps.Adds.{Adds}
use Rattle.compat_judge.specs.steps.Steps.{break_if, item_at}
use Rattle.compat_judge.proofs.Adding.{adds_as, adds_both, of_rule-append}
use Rattle.aidl_schema.specs.Same.{same_text}

-- the places of a rule, one item after the other
pub listed : {X : Type 0} (rule : ℕ) (place : X → Place) (breaks : X → Bool) (xs : List X) → of_rule rule (places place breaks xs) ≡ flat_map (break_if rule place breaks) xs
listed rule place breaks [] = refl
listed rule place breaks (x ∷ xs) = by (breaks x) refl (listed rule place breaks xs)
  where
    by : (b : Bool) → breaks x ≡ b → of_rule rule (places place breaks xs) ≡ flat_map (break_if rule place breaks) xs
        → of_rule rule (places place breaks (x ∷ xs)) ≡ break_if rule place breaks x ++ flat_map (break_if rule place breaks) xs
    by true e rest = rw e (ap (λ r. (rule, place x) ∷ r) rest)
    by false e rest = rw e rest

module _ {X : Type 0} (R : X → List Break) (start : Findings) (xs : List X) where
  pub added_more : (now further : Findings) (i : ℕ) (x : X) → Adds start now (flat_map R (take i xs)) → i < length xs → x ≡ get_or xs i x → Adds now further (R x) → Adds start further (flat_map R (take (i + 1) xs))
  added_more now further i x h lt is more =
      adds_as (ap (λ z. flat_map R (take i xs) ++ z) (sym (append-nil (R x))) ∙ sym (flat_map-append R (take i xs) (x ∷ [])) ∙ ap (flat_map R) (sym (take_further xs i x lt is))) (adds_both h more)

  pub added_all : (now : Findings) (i : ℕ) → Adds start now (flat_map R (take i xs)) → i ≡ length xs → Adds start now (flat_map R xs)
  added_all now i h e = adds_as (ap (flat_map R) (take_to_end xs i e)) h

module _ {X : Type 0} (rule : ℕ) (place : X → Place) (breaks : X → Bool) (start : Findings) (xs : List X) where
  pub places_all : (now : Findings) (i : ℕ) → Adds start now (flat_map (break_if rule place breaks) (take i xs)) → i ≡ length xs → Adds start now (of_rule rule (places place breaks xs))
  places_all now i h e = adds_as (sym (listed rule place breaks xs)) (added_all (break_if rule place breaks) start xs now i h e)

-- Look-ups by position.

position_at : {X : Type 0} (p : X → Bool) (k : ℕ) (xs : List X) (o : Option ℕ) → position_from p k xs ≡ o → (i : ℕ) → o ≡ Some i → (k ≤ i) × (slice_get xs (i - k) ≡ find p xs)
position_at p k [] o e i s = cc
position_at p k (x ∷ xs) o e i s = by (p x) refl (λ h. position_at p (k + 1) xs o h i s)
  where
    by : (b : Bool) → p x ≡ b → (position_from p (k + 1) xs ≡ o → (k + 1 ≤ i) × (slice_get xs (i - (k + 1)) ≡ find p xs)) → (k ≤ i) × (slice_get (x ∷ xs) (i - k) ≡ find p (x ∷ xs))
    by true b rest =
        let here : Some k ≡ o = rw b at e in
        let same : k ≡ i = cc in
        let none : i - k ≡ 0 = omega arith in
        (omega arith, rw (none, b) refl)
    by false b rest =
        let after : position_from p (k + 1) xs ≡ o = rw b at e in
        let r = rest after in
        let step : i - k ≡ suc (i - (k + 1)) = omega (arith, r.0) in
        (omega (arith, r.0), rw (step, b) r.1)

position_none : {X : Type 0} (p : X → Bool) (k : ℕ) (xs : List X) → position_from p k xs ≡ None → find p xs ≡ None
position_none p k [] e = refl
position_none p k (x ∷ xs) e = by (p x) refl (λ h. position_none p (k + 1) xs h)
  where
    by : (b : Bool) → p x ≡ b → (position_from p (k + 1) xs ≡ None → find p xs ≡ None) → find p (x ∷ xs) ≡ None
    by true b rest = let here : Some k ≡ None = rw b at e in cc
    by false b rest = let after : position_from p (k + 1) xs ≡ None = rw b at e in rw b (rest after)

-- the item at the first place that passes is the first that passes
pub item_found : {X : Type 0} (p : X → Bool) (xs : List X) → item_at xs (position_from p 0 xs) ≡ find p xs
item_found p xs = by (position_from p 0 xs) refl
  where
    by : (o : Option ℕ) → position_from p 0 xs ≡ o → item_at xs o ≡ find p xs
    by None e = sym (position_none p 0 xs e)
    by (Some i) e = let same : i - 0 ≡ i = omega arith in subst (λ k. slice_get xs k ≡ find p xs) same (position_at p 0 xs (Some i) e i refl).1

position-map : {X Y : Type 0} (f : X → Y) (p : Y → Bool) (k : ℕ) (xs : List X) → position_from p k (map f xs) ≡ position_from (λ x. p (f x)) k xs
position-map f p k [] = refl
position-map f p k (x ∷ xs) = rw (position-map f p (k + 1) xs) refl

-- where a text stands first among others
abbrev pub place_of : List (List ℕ) → List ℕ → Option ℕ
place_of texts x = position_from (λ y. same_text x y) 0 texts

-- what has the name of x
pub item_named : {X : Type 0} (name : X → List ℕ) (x : X) (ys : List X) → item_at ys (place_of (map name ys) (name x)) ≡ find (λ y. same_text (name x) (name y)) ys
item_named name x ys = ap (item_at ys) (position-map name (λ y. same_text (name x) y) 0 ys) ∙ item_found (λ y. same_text (name x) (name y)) ys

pub find-same : {X : Type 0} (p q : X → Bool) → ((x : X) → p x ≡ q x) → (xs : List X) → find p xs ≡ find q xs
find-same p q same [] = refl
find-same p q same (x ∷ xs) = rw (same x, find-same p q same xs) refl

pub of_rule-flat : {X : Type 0} (rule : ℕ) (F : X → List Place) (xs : List X) → of_rule rule (flat_map F xs) ≡ flat_map (λ x. of_rule rule (F x)) xs
of_rule-flat rule F [] = refl
of_rule-flat rule F (x ∷ xs) = of_rule-append rule (F x) (flat_map F xs) ∙ ap (λ z. of_rule rule (F x) ++ z) (of_rule-flat rule F xs)

-- Members of which each has one beside it, or none.

pub beside_listed : {X : Type 0} (rule : ℕ) (place : X → Place) (breaks : X → X → Bool) (other : X → Option X) (xs : List X)
    → of_rule rule (places (λ p. place p.0) (λ p. breaks p.0 p.1) (flat_map (λ x. with_found x (other x)) xs)) ≡ flat_map (break_if rule place (λ x. is_there_and (breaks x) (other x))) xs
beside_listed rule place breaks other [] = refl
beside_listed {X} rule place breaks other (x ∷ xs) = by (other x) refl (beside_listed rule place breaks other xs)
  where
    all : List X → List Break
    all xs = flat_map (break_if rule place (λ x. is_there_and (breaks x) (other x))) xs

    told : List (X × X) → List Break
    told both = of_rule rule (places (λ p. place p.0) (λ p. breaks p.0 p.1) both)

    rest : List (X × X)
    rest = flat_map (λ x. with_found x (other x)) xs

    there : (y : X) (b : Bool) → breaks x y ≡ b → told rest ≡ all xs → told ((x, y) ∷ rest) ≡ of_rule rule (place_if (place x) (breaks x y)) ++ all xs
    there y true e h = rw e (ap (λ r. (rule, place x) ∷ r) h)
    there y false e h = rw e h

    by : (o : Option X) → other x ≡ o → told rest ≡ all xs → told (with_found x (other x) ++ rest) ≡ of_rule rule (place_if (place x) (is_there_and (breaks x) (other x))) ++ all xs
    by None e h = rw e h
    by (Some y) e h = rw e (there y (breaks x y) refl h)

pub beside_flat : {X B : Type 0} (F : X → X → List B) (other : X → Option X) (xs : List X)
    → flat_map (λ p. F p.0 p.1) (flat_map (λ x. with_found x (other x)) xs) ≡ flat_map (λ x. if_found (F x) (other x)) xs
beside_flat F other [] = refl
beside_flat {X} {B} F other (x ∷ xs) = by (other x) refl (beside_flat F other xs)
  where
    rest : List (X × X)
    rest = flat_map (λ x. with_found x (other x)) xs

    all : List B
    all = flat_map (λ x. if_found (F x) (other x)) xs

    by : (o : Option X) → other x ≡ o → flat_map (λ p. F p.0 p.1) rest ≡ all → flat_map (λ p. F p.0 p.1) (with_found x (other x) ++ rest) ≡ if_found (F x) (other x) ++ all
    by None e h = rw e h
    by (Some y) e h = rw e (ap (λ z. F x y ++ z) h)
