-- The outcomes after so many items of the order: one for each item, those of the items so far are theirs, and each value that is
-- known can stand in an expression.
use Rattle.std.proofs.Common.{◌≡◌, ◌≢◌, ℕ, ◌+◌, ◌<◌, ◌≤◌, Bool, true, false, eqb, IsTrue, List, length, get_or, set, refl, sym, ap, ◌∙◌, subst, Contains, arith, get_or-set_other, get_or-set_same, length-set}
use Rattle.std.specs.Prelude.{nat_lt}
use Rattle.std.specs.List.{slice_get}
use Rattle.std.proofs.lemmas.Bool.Decides.{nat_tests}
use Rattle.std.proofs.lemmas.Grind.{get_or_default_zero}
use Rattle.aidl_syntax.specs.Sources.{Source}
use Rattle.const_eval.specs.declared.outcome.Outcome.{Outcome}
use Rattle.const_eval.specs.declared.outcome.Outcome.TheVariants.{Unjudged}
use Rattle.const_items.specs.Items.{items}
use Rattle.const_eval.specs.Outcomes.{HasOutcome, AreOutcomes, outcome_at, wanted_of}
use Rattle.const_eval.specs.Held.{is_held_outcome}
use Rattle.graph_cycles.specs.Paths.{flag}
use Rattle.const_items.specs.Dependence.{next}
use Rattle.const_eval.specs.Known.{AreHeld, AreKnown, IsInTurn}

pub record IsSettled (files : List Source) (order : List ℕ) (k : ℕ) (outcomes : List Outcome) : Type 0 where
  pub count : length outcomes ≡ length (items files)
  pub known : (j : ℕ) → j < k → HasOutcome files (get_or order j 0) (outcome_at outcomes (get_or order j 0))
  pub held : AreHeld (items files) outcomes

module _ (files : List Source) (order : List ℕ) where
  -- before the first
  pub at_first : (outcomes : List Outcome) → length outcomes ≡ length (items files) → ((n : ℕ) → outcome_at outcomes n ≡ Unjudged) → IsSettled files order 0 outcomes
  at_first outcomes len none = record {
    count = len;
    known = λ j lt. absurd (omega arith);
    held = λ n. ap (is_held_outcome (wanted_of (slice_get (items files) n))) (none n);
  }

  module _ (m : ℕ) (old : List Outcome) (o : Outcome) (within : m < length old) where
    -- what holds at the place that is written, and of what stood at the others
    by_place : (P : ℕ → Outcome → Type 0) → P m o → (n : ℕ) → P n (outcome_at old n) → (b : Bool) → eqb n m ≡ b → P n (outcome_at (set old m o) n)
    by_place P here n other true e =
        let same : m ≡ n = grind (arith, nat_tests) in
        subst (λ i. P i (outcome_at (set old m o) i)) same (subst (P m) (sym (get_or-set_same old m o Unjudged within)) here)
    by_place P here n other false e =
        let ne : n ≢ m = grind (arith, nat_tests) in
        subst (P n) (sym (get_or-set_other old m n o Unjudged ne)) other

    written : (P : ℕ → Outcome → Type 0) → P m o → (n : ℕ) → P n (outcome_at old n) → P n (outcome_at (set old m o) n)
    written P here n other = by_place P here n other (eqb n m) refl

    module _ (k : ℕ) (before : IsSettled files order k old) (at : get_or order k 0 ≡ m) (has : HasOutcome files m o)
        (fits : IsTrue (is_held_outcome (wanted_of (slice_get (items files) m)) o)) where
      known_at : (j : ℕ) → j < k + 1 → (b : Bool) → nat_lt j k ≡ b → HasOutcome files (get_or order j 0) (outcome_at (set old m o) (get_or order j 0))
      known_at j lt true e = let less : j < k = grind (arith, nat_tests) in written (HasOutcome files) has (get_or order j 0) (before.known j less)
      known_at j lt false e =
          let ge : k ≤ j = grind (arith, nat_tests) in
          let last : k ≡ j = omega arith in
          let place : m ≡ get_or order j 0 = sym at ∙ ap (λ (i : ℕ). get_or order i 0) last in
          subst (λ n. HasOutcome files n (outcome_at (set old m o) n)) place (subst (HasOutcome files m) (sym (get_or-set_same old m o Unjudged within)) has)

      -- one more
      pub one_more : (new : List Outcome) → new ≡ set old m o → IsSettled files order (k + 1) new
      one_more new is = subst (IsSettled files order (k + 1)) (sym is) record {
        count = length-set old m o ∙ before.count;
        known = λ j lt. known_at j lt (nat_lt j k) refl;
        held = λ n. written (λ i p. IsTrue (is_held_outcome (wanted_of (slice_get (items files) i)) p)) fits n (before.held n);
      }

  -- after the last
  pub at_last : (k : ℕ) (outcomes : List Outcome) → length order ≤ k → ((n : ℕ) → n < length (items files) → Contains order n) → IsSettled files order k outcomes → AreOutcomes files outcomes
  at_last k outcomes le whole settled = record {
    count = settled.count;
    each = λ n lt. let there = whole n lt in
        let here : get_or order there.0 0 ≡ n = sym (get_or_default_zero order there.0 n there.1) ∙ there.2 in
        subst (λ m. HasOutcome files m (outcome_at outcomes m)) here (settled.known there.0 (omega (arith, there.1)));
  }

  -- what an item on no cycle depends on is known
  pub ready : (on : List Bool) → IsInTurn files on order → (k m : ℕ) (outcomes : List Outcome) → IsSettled files order k outcomes → k < length order → get_or order k 0 ≡ m → flag on m ≡ false → AreKnown files outcomes m
  ready on turn k m outcomes settled lt at off d there =
      let before = turn k d lt (ap (flag on) at ∙ off) (subst (λ i. Contains (next files i) d) (sym at) there) in
      subst (λ i. HasOutcome files i (outcome_at outcomes i)) before.2 (settled.known before.0 before.1)
