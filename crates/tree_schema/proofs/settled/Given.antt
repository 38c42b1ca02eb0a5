-- Where no outcome is a fault, and no item is left unjudged for its form, each item has a value.
use Rattle.std.proofs.Common.{◌≡◌, ℕ, false, List, Some, Result, Ok, Err, slice_get, refl, ap, subst}
use Rattle.aidl_base.specs.declared.constant.Const.{Const}
use Rattle.aidl_syntax.specs.Sources.{Source}
use Rattle.const_values.specs.declared.fault.ConstFault.{ConstFault}
use Rattle.const_values.specs.declared.fault.ConstFault.TheVariants.{Cycle, UnknownName}
use Rattle.const_eval.specs.declared.outcome.Outcome.{Outcome}
use Rattle.const_eval.specs.declared.outcome.Outcome.TheVariants.{Given, Fault}
use Rattle.const_items.specs.Items.{Item, items}
use Rattle.const_eval.specs.Outcomes.{HasOutcome, is_given, judgement_of, outcome_of}
use Rattle.const_eval.specs.Outcomes.HasOutcome.{unformed, unknown, cyclic, behind, judged}

module _ (files : List Source) (none_unjudged : (n : ℕ) (x : Item) → slice_get (items files) n ≡ Some x → x.unjudged ≡ false) (faultless : (n : ℕ) (fault : ConstFault) → HasOutcome files n (Fault fault) → ⊥) where
  lacks_none : (c : Const) (o : Outcome) → o ≡ Given c → is_given o ≡ false → ⊥
  lacks_none c o e h = cc

  pub all-given : (n : ℕ) (o : Outcome) → HasOutcome files n o → (c : Const) × (o ≡ Given c)
  all-given n o (unformed _ x e u) = let not_so = none_unjudged n x e in absurd cc
  all-given n o (unknown _ x e u k) = absurd (faultless n UnknownName (unknown n x e u k))
  all-given n o (cyclic _ x e u k i) = absurd (faultless n Cycle (cyclic n x e u k i))
  all-given n o (behind _ x e u k i m q there has lacks) = let r = all-given m q has in absurd (lacks_none r.0 q r.1 lacks)
  all-given n o (judged _ x e u k i values all) = by (judgement_of files values x x.value) refl where
    by : (r : Result Const ConstFault) → judgement_of files values x x.value ≡ r → (c : Const) × (outcome_of (judgement_of files values x x.value) ≡ Given c)
    by (Ok c) q = (c, ap outcome_of q)
    by (Err fault) q = absurd (faultless n fault (subst (λ r. HasOutcome files n (outcome_of r)) q (judged n x e u k i values all)))
