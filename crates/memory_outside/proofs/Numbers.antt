-- The numbers of the calls of an object in memory.
use Rattle.std.proofs.Common.{◌≡◌, ℕ, suc, ◌+◌, ◌-◌, ◌^◌, ◌≤◌, ◌<◌, ◌==◌, ◌↔◌, min, Bool, true, false, List, [], ◌∷◌, length, Contains, IsTrue, refl, sym, ap, ◌∙◌, arith}
use Rattle.std.specs.List.{list_any}
use Rattle.std.specs.Cmp.{IsEquivalence}
use Rattle.std.proofs.lemmas.Cmp.{nat_eq_equiv}
use Rattle.std.proofs.lemmas.Bool.{eqb-true}
use Rattle.std.proofs.lemmas.Map.Views.{Contains-from_any, list_any-from_Contains}
use Rattle.std.specs.Prelude.{nat_le}
use Rattle.std.proofs.lemmas.Bool.Decides.{nat_tests}
use Rattle.memory_outside.specs.declared.failures.Failing.{Failing}
use Rattle.memory_outside.specs.declared.failures.Failing.TheVariants.{Numbers, From}
use Rattle.memory_outside.specs.declared.failures.Failures.{Failures}
use Rattle.memory_outside.specs.Failing.{MayBe, after_calls, counted, fails_at, fails_next, uncounted}

same : ℕ → ℕ → Bool
same number given = given == number

same-equiv : IsEquivalence same
unfolding same
same-equiv = record {
  refl = nat_eq_equiv.refl;
  symm = λ x y. nat_eq_equiv.symm y x;
  congr = λ x y z e. nat_eq_equiv.symm z x ∙ nat_eq_equiv.congr x y z (nat_eq_equiv.symm x y ∙ e) ∙ nat_eq_equiv.symm y z;
}

-- a number is found exactly where it is among those given
found : (number : ℕ) (given : List ℕ) → IsTrue (list_any (λ n. n == number) given) ↔ Contains given number
unfolding same
found number given = (Contains-from_any {eq = same} (λ x y e. sym (eqb-true y x e)) number given, list_any-from_Contains {eq = same} same-equiv number given)

-- the calls that fail stay the same
failing_stays : (before : List Bool) (f : Failures) → (after_calls before f).failing ≡ f.failing
failing_stays [] f = refl
failing_stays (failed ∷ later) f = failing_stays later (counted failed f)

-- so many calls are counted
counted_on : (before : List Bool) (f : Failures) → f.calls ≤ 2 ^ 64 - 1
    → (after_calls before f).calls ≡ min (f.calls + length before) (2 ^ 64 - 1)
counted_on [] f few = stays f.calls few
  where
    stays : (n : ℕ) → n ≤ 2 ^ 64 - 1 → n ≡ min (n + 0) (2 ^ 64 - 1)
    stays n few = omega arith
counted_on (failed ∷ later) f few = counted_on later (counted failed f) (at_most f.calls) ∙ once_more f.calls (length later)
  where
    at_most : (n : ℕ) → min (n + 1) (2 ^ 64 - 1) ≤ 2 ^ 64 - 1
    at_most n = omega arith

    once_more : (n k : ℕ) → min (min (n + 1) (2 ^ 64 - 1) + k) (2 ^ 64 - 1) ≡ min (n + suc k) (2 ^ 64 - 1)
    once_more n k = omega arith

pub calls_count : (failing : Failing) (before : List Bool)
    → (after_calls before (uncounted failing)).calls ≡ min (length before) (2 ^ 64 - 1)
calls_count failing before = counted_on before (uncounted failing) (omega arith) ∙ from_none (length before)
  where
    from_none : (n : ℕ) → min (0 + n) (2 ^ 64 - 1) ≡ min n (2 ^ 64 - 1)
    from_none n = omega arith

next : (failing : Failing) (before : List Bool)
    → fails_next (after_calls before (uncounted failing)) ≡ fails_at failing (min (length before) (2 ^ 64 - 1))
next failing before = rw (failing_stays before (uncounted failing), calls_count failing before) refl

pub fails_by_number : (given : List ℕ) (before : List Bool)
    → IsTrue (fails_next (after_calls before (uncounted (Numbers given)))) ↔ Contains given (min (length before) (2 ^ 64 - 1))
fails_by_number given before = rw (next (Numbers given) before) (found (min (length before) (2 ^ 64 - 1)) given)

reached : (first call : ℕ) → IsTrue (nat_le first call) ↔ (first ≤ call)
reached first call = (λ h. grind (arith, nat_tests), λ h. grind (arith, nat_tests))

capped : (first count : ℕ) → first < 2 ^ 64 → (first ≤ min count (2 ^ 64 - 1)) ↔ (first ≤ count)
capped first count small = (λ h. omega arith, λ h. omega arith)

pub fails_from : (first : ℕ) → first < 2 ^ 64 → (before : List Bool)
    → IsTrue (fails_next (after_calls before (uncounted (From first)))) ↔ (first ≤ length before)
fails_from first small before =
    let one = reached first (min (length before) (2 ^ 64 - 1)) in
    let two = capped first (length before) small in
    rw (next (From first) before) (λ h. two.0 (one.0 h), λ h. one.1 (two.1 h))

-- no call is one that fails, so none was answered by `Failed`
none_fails : (f : Failures) → f.failing ≡ Numbers [] → fails_next f ≡ false
none_fails f none = ap (λ failing. fails_at failing f.calls) none

faults_stay : (failed : Bool) (f : Failures) → f.failing ≡ Numbers [] → (failed ≡ true → fails_next f ≡ true)
    → (counted failed f).faults ≡ f.faults
faults_stay true f none may = absurd (true_is_false (sym (may refl) ∙ none_fails f none))
  where
    true_is_false : true ≡ false → ⊥
    true_is_false e = absurd cc
faults_stay false f none may = refl

no_fault_on : (before : List Bool) (f : Failures) → f.failing ≡ Numbers [] → MayBe before f
    → (after_calls before f).faults ≡ f.faults
no_fault_on [] f none may = refl
no_fault_on (failed ∷ later) f none may =
    no_fault_on later (counted failed f) none may.1 ∙ faults_stay failed f none may.0

pub no_fault : (before : List Bool) → MayBe before (uncounted (Numbers []))
    → (after_calls before (uncounted (Numbers []))).faults ≡ 0
no_fault before may = no_fault_on before (uncounted (Numbers [])) refl may
