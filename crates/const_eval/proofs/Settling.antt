-- What the outcomes so far give of the next item.
use Rattle.std.proofs.Common.{◌≡◌, ℕ, zero, suc, ◌<◌, Bool, true, false, ◌&&◌, IsTrue, ◌↔◌, List, [], ◌∷◌, length, get_or, Some, None, Option, refl, sym, ap, ◌∙◌, subst, Contains, arith}
use Rattle.std.specs.List.{list_all, slice_get}
use Rattle.std.proofs.lemmas.Option.{same_Some}
use Rattle.aidl_syntax.specs.Sources.{Source}
use Rattle.const_values.specs.declared.fault.ConstFault.TheVariants.{Cycle, UnknownName}
use Rattle.const_eval.specs.declared.outcome.Outcome.{Outcome}
use Rattle.const_eval.specs.declared.outcome.Outcome.TheVariants.{Given, Fault, Unjudged}
use Rattle.const_items.specs.Items.{Item, items}
use Rattle.const_items.specs.Dependence.{next, has_unknown_name}
use Rattle.const_eval.specs.Known.{AreKnown, are_given, value_of, values_in, without_value}
use Rattle.const_eval.specs.Outcomes.{HasOutcome, IsCyclic, is_given, judgement_of, outcome_at, outcome_of}
use Rattle.const_eval.specs.Outcomes.HasOutcome.{unformed, unknown, cyclic, behind, judged}

-- Tests over a list of numbers.

both_left : (a b : Bool) → (a && b) ≡ true → a ≡ true
both_left true b h = refl
both_left false b h = absurd cc

both_right : (a b : Bool) → (a && b) ≡ true → b ≡ true
both_right true b h = h
both_right false b h = absurd cc

module _ (test : ℕ → Bool) where
  each_at : (ns : List ℕ) (k n : ℕ) → list_all test ns ≡ true → k < length ns → get_or ns k n ≡ n → test n ≡ true
  each_at [] k n h lt e = absurd (omega arith)
  each_at (m ∷ ns) zero n h lt e = ap test (sym e) ∙ both_left (test m) (list_all test ns) h
  each_at (m ∷ ns) (suc k) n h lt e = each_at ns k n (both_right (test m) (list_all test ns) h) (omega arith) e

  each : (ns : List ℕ) → list_all test ns ≡ true → (n : ℕ) → Contains ns n → test n ≡ true
  each ns h n there = each_at ns there.0 n h there.1 there.2

  -- one of the numbers fails the test
  abbrev Fails : List ℕ → Type 0
  Fails ns = (n : ℕ) × Contains ns n × (test n ≡ false)

  later : (m : ℕ) (ns : List ℕ) → Fails ns → Fails (m ∷ ns)
  later m ns f = (f.0, (suc f.1.0, omega (arith, f.1.1), f.1.2), f.2)

  fails : (ns : List ℕ) → list_all test ns ≡ false → Fails ns
  fails [] h = absurd cc
  fails (m ∷ ns) h = by_test (test m) refl h (fails ns)
    where
      by_test : (b : Bool) → test m ≡ b → (b && list_all test ns) ≡ false → (list_all test ns ≡ false → Fails ns) → Fails (m ∷ ns)
      by_test true e h rest = later m ns (rest h)
      by_test false e h rest = (m, (zero, omega arith, refl), e)

given_value : (o : Outcome) → is_given o ≡ true → o ≡ Given (value_of o)
given_value (Given c) h = refl
given_value (Fault fault) h = absurd cc
given_value Unjudged h = absurd cc

module _ (files : List Source) (outcomes : List Outcome) where
  module _ (n : ℕ) (x : Item) (at : slice_get (items files) n ≡ Some x) (formed : x.unjudged ≡ false) (named : has_unknown_name files x ≡ false)
      (off : IsCyclic files n → ⊥) (known : AreKnown files outcomes n) where
    -- something has no value
    pub is_behind : are_given outcomes (next files n) ≡ false → HasOutcome files n Unjudged
    is_behind h =
        let f = fails (λ m. is_given (outcome_at outcomes m)) (next files n) h in
        behind n x at formed named off f.0 (outcome_at outcomes f.0) f.1 (known f.0 f.1) f.2

    -- all have one
    pub is_judged : are_given outcomes (next files n) ≡ true → HasOutcome files n (outcome_of (judgement_of files (values_in outcomes) x x.value))
    is_judged h =
        judged n x at formed named off (values_in outcomes) (λ m there. subst (λ o. HasOutcome files m o)
        (given_value (outcome_at outcomes m) (each (λ k. is_given (outcome_at outcomes k)) (next files n) h m there)) (known m there))

-- The outcome of an item, once the outcomes of what it depends on are known.
module _ (files : List Source) (outcomes : List Outcome) (n : ℕ) (x : Item) (at : slice_get (items files) n ≡ Some x) (told : Bool) (is_told : IsTrue told ↔ IsCyclic files n)
    (known : told ≡ false → AreKnown files outcomes n) where
  off_cycle : told ≡ false → IsCyclic files n → ⊥
  off_cycle e p = let on : told ≡ true = is_told.1 p in absurd cc

  early : (u k c g : Bool) → x.unjudged ≡ u → has_unknown_name files x ≡ k → told ≡ c → are_given outcomes (next files n) ≡ g → (o : Outcome) → without_value u k c g ≡ Some o → HasOutcome files n o
  early true k c g eu ek ec eg o e = subst (HasOutcome files n) (same_Some Unjudged o e) (unformed n x at eu)
  early false true c g eu ek ec eg o e = subst (HasOutcome files n) (same_Some (Fault UnknownName) o e) (unknown n x at eu ek)
  early false false true g eu ek ec eg o e = subst (HasOutcome files n) (same_Some (Fault Cycle) o e) (cyclic n x at eu ek (is_told.0 ec))
  early false false false false eu ek ec eg o e = subst (HasOutcome files n) (same_Some Unjudged o e) (is_behind files outcomes n x at eu ek (off_cycle ec) (known ec) eg)
  early false false false true eu ek ec eg o e = absurd cc

  late : (u k c g : Bool) → x.unjudged ≡ u → has_unknown_name files x ≡ k → told ≡ c → are_given outcomes (next files n) ≡ g → without_value u k c g ≡ None
      → HasOutcome files n (outcome_of (judgement_of files (values_in outcomes) x x.value))
  late true k c g eu ek ec eg e = absurd cc
  late false true c g eu ek ec eg e = absurd cc
  late false false true g eu ek ec eg e = absurd cc
  late false false false false eu ek ec eg e = absurd cc
  late false false false true eu ek ec eg e = is_judged files outcomes n x at eu ek (off_cycle ec) (known ec) eg

  -- without values, and by them
  pub settles : (k g : Bool) → k ≡ has_unknown_name files x → g ≡ are_given outcomes (next files n) → (r : Option Outcome) → r ≡ without_value x.unjudged k told g → (o : Outcome) → r ≡ Some o → HasOutcome files n o
  settles k g ek eg r er o e = early x.unjudged k told g refl (sym ek) refl (sym eg) o (sym er ∙ e)

  pub settles_by : (k g : Bool) → k ≡ has_unknown_name files x → g ≡ are_given outcomes (next files n) → (r : Option Outcome) → r ≡ without_value x.unjudged k told g → r ≡ None
      → HasOutcome files n (outcome_of (judgement_of files (values_in outcomes) x x.value))
  settles_by k g ek eg r er e = late x.unjudged k told g refl (sym ek) refl (sym eg) (sym er ∙ e)
