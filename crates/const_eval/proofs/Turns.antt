-- In the order of ranks what an item depends on stands before it.
use Rattle.std.proofs.Common.{◌≡◌, ℕ, ◌+◌, ◌<◌, ◌≤◌, Bool, true, false, cond, IsTrue, ◌↔◌, List, [], ◌∷◌, length, get_or, Some, None, Option, refl, sym, ap, ◌∙◌, subst, Contains, arith}
use Rattle.std.specs.Prelude.{slice_index, nat_lt}
use Rattle.std.specs.List.{All, cons_option, filter_map, position_from, slice_get}
use Rattle.std.specs.List.Sorted.{IsNonDecreasingBy}
use Rattle.std.proofs.lemmas.Bool.Decides.{nat_tests}
use Rattle.std.proofs.lemmas.Grind.{common_steps}
use Rattle.std.proofs.lemmas.List.Elements.{All-nil, All-cons, All-append, All-contains}
use Rattle.std.proofs.lemmas.Option.{same_Some}
use Rattle.graph_cycles.specs.Paths.{Leads, TellsCycles, Descends, flag, targets}
use Rattle.aidl_syntax.specs.Trees.{offset_of}
use Rattle.aidl_syntax.specs.Sources.{Source}
use Rattle.const_items.specs.Items.{Item, Written, written, first, after, items, is_at, number_at, place_of}
use Rattle.const_items.specs.Dependence.{Target, of_constant, of_enumerator, target, number_of, number_before, names_in, next, next_of}
use Rattle.const_eval.specs.Known.{AreNext, IsInTurn}
use Rattle.const_eval.specs.Outcomes.{IsCyclic}

-- a number of a lower rank stands before
module _ (ranks order : List ℕ) (count : ℕ) (whole : (n : ℕ) → n < count → Contains order n) (up : IsNonDecreasingBy (λ n. slice_index ranks n) order) where
  abbrev pub Before : ℕ → ℕ → Type 0
  Before k n = (j : ℕ) × (j < k) × (get_or order j 0 ≡ n)

  same_default : (k n : ℕ) → k < length order → get_or order k n ≡ get_or order k 0
  same_default k n lt = grind (arith, common_steps)

  pub before : (k n : ℕ) → k < length order → n < count → slice_index ranks n < slice_index ranks (get_or order k 0) → Before k n
  before k n lt within less =
      let there = whole n within in
      let j : ℕ = there.0 in
      let here : get_or order j 0 ≡ n = sym (same_default j n there.1) ∙ there.2 in
      let le : j < k = by_order j here there.1 (nat_lt j k) refl in
      (j, le, here)
    where
      by_order : (j : ℕ) → get_or order j 0 ≡ n → j < length order → (b : Bool) → nat_lt j k ≡ b → j < k
      by_order j here in' true e = grind (arith, nat_tests)
      by_order j here in' false e =
          let ge : k ≤ j = grind (arith, nat_tests) in
          let rises : slice_index ranks (get_or order k 0) ≤ slice_index ranks (get_or order j 0) = up k j 0 ge in' in
          let same : slice_index ranks (get_or order j 0) ≡ slice_index ranks n = ap (slice_index ranks) here in
          absurd (omega arith)

-- the flags tell of the items whether they depend on themselves
module _ (files : List Source) (rows : List (List ℕ)) (same : AreNext files rows) where
  same_next : targets rows ≡ next files
  same_next = λ i n. same n i

  pub tells : (on : List Bool) → TellsCycles (targets rows) on → (n : ℕ) → IsTrue (flag on n) ↔ IsCyclic files n
  tells on told n = subst (λ f. IsTrue (flag on n) ↔ Leads f n n) same_next (told n)

  -- Numbers of items are below their count.

  position_within : {X : Type 0} (p : X → Bool) (k : ℕ) (xs : List X) (n : ℕ) → position_from p k xs ≡ Some n → n < k + length xs
  position_within p k [] n e = absurd cc
  position_within p k (x ∷ xs) n e = by_test (p x) e (position_within p (k + 1) xs n)
    where
      by_test : (b : Bool) → cond b (Some k) (position_from p (k + 1) xs) ≡ Some n → (position_from p (k + 1) xs ≡ Some n → n < k + 1 + length xs) → n < k + length (x ∷ xs)
      by_test true h rest = let same' = same_Some k n h in omega arith
      by_test false h rest = let less = rest h in omega arith

  abbrev Small : ℕ → Type 0
  Small n = n < length (items files)

  at_small : (file place n : ℕ) → number_at (items files) file place ≡ Some n → Small n
  at_small file place n e = let less = position_within (is_at file place) 0 (items files) n e in omega arith

  among_small : (t : Option Target) (n : ℕ) → number_of files t ≡ Some n → Small n
  among_small None n e = absurd cc
  among_small (Some (of_constant file number c)) n e = at_small file (offset_of c.value) n e
  among_small (Some (of_enumerator file number x)) n e = at_small file (place_of x) n e

  option_small : (o : Option ℕ) (ns : List ℕ) → ((n : ℕ) → o ≡ Some n → Small n) → All Small ns → All Small (cons_option o ns)
  option_small None ns h all = all
  option_small (Some n) ns h all = All-cons Small n ns (h n refl) all

  map_small : {X : Type 0} (f : X → Option ℕ) → ((x : X) (n : ℕ) → f x ≡ Some n → Small n) → (xs : List X) → All Small (filter_map f xs)
  map_small f h [] = All-nil Small
  map_small f h (x ∷ xs) = option_small (f x) (filter_map f xs) (h x) (map_small f h xs)

  before_small : (x : Item) (w : Written) → All Small (number_before files x w)
  before_small x (written e) = All-nil Small
  before_small x first = All-nil Small
  before_small x (after place) = option_small (number_at (items files) x.file place) [] (at_small x.file place) (All-nil Small)

  pub next_small : (o : Option Item) → All Small (next_of files o)
  next_small None = All-nil Small
  next_small (Some x) = All-append Small (filter_map (λ d. number_of files (target files x d)) (names_in x.value)) (number_before files x x.value)
      (map_small (λ d. number_of files (target files x d)) (λ d. among_small (target files x d)) (names_in x.value)) (before_small x x.value)

  -- so what an item depends on stands before it
  pub in_turn : (on : List Bool) (ranks order : List ℕ) → Descends (targets rows) on ranks → ((n : ℕ) → n < length (items files) → Contains order n)
      → IsNonDecreasingBy (λ n. slice_index ranks n) order → IsInTurn files on order
  in_turn on ranks order falls whole up k m lt off there =
      let n = get_or order k 0 in
      before ranks order (length (items files)) whole up k m lt (All-contains Small (next files n) m (next_small (slice_get (items files) n)) there)
      (falls n m (subst (λ ms. Contains ms m) (sym (same n)) there) off)
