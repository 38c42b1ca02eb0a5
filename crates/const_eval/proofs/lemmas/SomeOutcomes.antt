-- The items of any files have outcomes: item by item in the order of ranks.
use Rattle.std.proofs.Common.{◌≡◌, ℕ, zero, suc, ◌<◌, ◌≤◌, Bool, true, false, List, [], ◌∷◌, length, map, Option, Some, None, option_map, slice_index, refl, sym, ap, ◌∙◌, subst, Contains, arith}
use Rattle.std.specs.Prelude.{nat_lt}
use Rattle.std.specs.List.{slice_get}
use Rattle.std.proofs.lemmas.Bool.Decides.{nat_tests}
use Rattle.std.proofs.lemmas.List.Elements.{All-contains}
use Rattle.std.proofs.lemmas.Option.{slice_get-map}
use Rattle.graph_cycles.specs.Paths.{Descends, TellsCycles, flag, or_empty, targets}
use Rattle.graph_cycles.proofs.lemmas.Found.{gathered, some_cycles}
use Rattle.aidl_syntax.specs.Sources.{Source}
use Rattle.const_eval.specs.declared.outcome.Outcome.{Outcome}
use Rattle.const_eval.specs.declared.outcome.Outcome.TheVariants.{Unjudged}
use Rattle.const_items.specs.Items.{Item, items}
use Rattle.const_items.specs.Dependence.{depends_on, has_unknown_name, next, next_of}
use Rattle.const_eval.specs.Known.{AreKnown, AreNext, are_given, values_in, without_value}
use Rattle.const_eval.specs.Outcomes.{AreOutcomes, HasOutcome, judgement_of, outcome_at, outcome_of}
use Rattle.const_eval.proofs.Settling.{settles, settles_by}
use Rattle.const_eval.proofs.Turns.{next_small, tells}

element_at : {X : Type 0} (xs : List X) (n : ℕ) → n < length xs → (x : X) × (slice_get xs n ≡ Some x)
element_at [] n lt = absurd (omega arith)
element_at (x ∷ xs) zero lt = (x, refl)
element_at (x ∷ xs) (suc n) lt = element_at xs n (omega arith)

module _ (files : List Source) where
  -- the graph of what items depend on
  abbrev rows : List (List ℕ)
  rows = map (depends_on files) (items files)

  same_next : AreNext files rows
  same_next n = ap or_empty (slice_get-map (depends_on files) (items files) n) ∙ by_item (slice_get (items files) n)
    where
      by_item : (o : Option Item) → or_empty (option_map (depends_on files) o) ≡ next_of files o
      by_item None = refl
      by_item (Some x) = refl

  abbrev Count : ℕ
  Count = length (items files)

  module _ (on : List Bool) (ranks : List ℕ) (told : TellsCycles (targets rows) on)
      (falls : Descends (targets rows) on ranks) where
    -- the outcomes of the items whose rank is below a number
    abbrev Below : ℕ → List Outcome → Type 0
    Below r outcomes = (n : ℕ) → n < Count → slice_index ranks n < r → HasOutcome files n (outcome_at outcomes n)

    module _ (r : ℕ) (outcomes : List Outcome) (below : Below r outcomes) (n : ℕ) (lt : n < Count) (le : slice_index ranks n ≤ r) where
      known : flag on n ≡ false → AreKnown files outcomes n
      known off m there =
          let within : m < Count = All-contains (λ i. i < Count) (next files n) m (next_small files rows same_next (slice_get (items files) n)) there in
          let less = falls n m (subst (λ ms. Contains ms m) (sym (same_next n)) there) off in
          below m within (omega arith)

      outcome : (x : Item) → slice_get (items files) n ≡ Some x → (o : Outcome) × HasOutcome files n o
      outcome x at = by_early (without_value x.unjudged (has_unknown_name files x) (flag on n) (are_given outcomes (next files n))) refl
        where
          by_early : (o : Option Outcome) → o ≡ without_value x.unjudged (has_unknown_name files x) (flag on n) (are_given outcomes (next files n)) → (o : Outcome) × HasOutcome files n o
          by_early (Some o) e = (
            o,
            settles files outcomes n x at (flag on n) (tells files rows same_next on told n) known
                (has_unknown_name files x) (are_given outcomes (next files n)) refl refl (Some o) e o refl,
          )
          by_early None e = (
            outcome_of (judgement_of files (values_in outcomes) x x.value),
            settles_by files outcomes n x at (flag on n) (tells files rows same_next on told n) known
                (has_unknown_name files x) (are_given outcomes (next files n)) refl refl None e refl,
          )

      next_outcome : (o : Outcome) × HasOutcome files n o
      next_outcome = let x = element_at (items files) n lt in outcome x.0 x.1

    one_level : (r : ℕ) (outcomes : List Outcome) → Below r outcomes → (n : ℕ) → n < Count → (b : Bool) → nat_lt (slice_index ranks n) (suc r) ≡ b
        → (o : Outcome) × (slice_index ranks n < suc r → HasOutcome files n o)
    one_level r outcomes below n lt true e = let o = next_outcome r outcomes below n lt (grind (arith, nat_tests)) in (o.0, λ less. o.1)
    one_level r outcomes below n lt false e = (Unjudged, λ less. absurd (grind (arith, nat_tests)))

    up_to : (r : ℕ) → (outcomes : List Outcome) × Below r outcomes
    up_to zero = ([], λ n lt less. absurd (omega arith))
    up_to (suc r) =
        let before = up_to r in
        let found = gathered Unjudged (λ n o. slice_index ranks n < suc r → HasOutcome files n o) Count (λ n lt. one_level r before.0 before.1 n lt (nat_lt (slice_index ranks n) (suc r)) refl) in
        (found.0, found.2)

    by_ranks : (outcomes : List Outcome) × AreOutcomes files outcomes
    by_ranks =
        let found = gathered Unjudged (HasOutcome files) Count (λ n lt. let low = up_to (slice_index ranks n) in next_outcome (slice_index ranks n) low.0 low.1 n lt (omega arith)) in
        (found.0, record { count = found.1; each = found.2 })

  -- outcomes
  pub some_outcomes : (outcomes : List Outcome) × AreOutcomes files outcomes
  some_outcomes = let graph = some_cycles rows in by_ranks graph.0 graph.1 graph.2 graph.3
