-- A table after a key got its value: what holds of each key's value before, and of the new one, holds of each after.
use Rattle.std.proofs.Common.{◌≡◌, ℕ, Bool, true, false, Option, Some, cond, nat_eq, IfSome, refl, sym, subst}
use Rattle.std.proofs.lemmas.Bool.{eqb-true}

pub kept : {X : Type 0} (P : ℕ → X → Type 0) (key q : ℕ) (x : X) (now before : Option X) → now ≡ cond (nat_eq key q) (Some x) before → P key x → IfSome before (P q) → IfSome now (P q)
kept P key q x now before is new old = subst (λ o. IfSome o (P q)) (sym is) (by_test (nat_eq key q) refl)
  where
    by_test : (b : Bool) → nat_eq key q ≡ b → IfSome (cond b (Some x) before) (P q)
    by_test true e = subst (λ r. P r x) (eqb-true key q e) new
    by_test false e = old
