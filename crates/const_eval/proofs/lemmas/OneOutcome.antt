-- No item has two outcomes.
use Rattle.std.proofs.Common.{◌≡◌, ℕ, false, List, Some, refl, sym, ap, ◌∙◌, subst, Contains}
use Rattle.std.specs.List.{slice_get}
use Rattle.aidl_base.specs.declared.constant.Const.{Const}
use Rattle.aidl_syntax.specs.Sources.{Source}
use Rattle.const_eval.specs.declared.outcome.Outcome.{Outcome}
use Rattle.const_eval.specs.declared.outcome.Outcome.TheVariants.{Given}
use Rattle.const_items.specs.Items.{Item, items}
use Rattle.const_items.specs.Dependence.{depends_on, next, next_of}
use Rattle.const_eval.specs.Outcomes.{Values, HasOutcome, is_given, judgement_of, outcome_of}
use Rattle.const_eval.specs.Outcomes.HasOutcome.{unformed, unknown, cyclic, behind, judged}
use Rattle.const_eval.proofs.lemmas.Agree.{judged_alike}

module _ (files : List Source) where
  same_item : (n : ℕ) (x y : Item) → slice_get (items files) n ≡ Some x → slice_get (items files) n ≡ Some y → x ≡ y
  same_item n x y e h = cc

  next_is : (n : ℕ) (x : Item) → slice_get (items files) n ≡ Some x → next files n ≡ depends_on files x
  next_is n x e = ap (next_of files) e

  given_is : (c : Const) (o : Outcome) → o ≡ Given c → is_given o ≡ false → ⊥
  given_is c o e h = cc

  same_value : (c d : Const) → Given c ≡ Given d → c ≡ d
  same_value c d e = cc

  judgements : (n : ℕ) (x y : Item) (values others : Values) → slice_get (items files) n ≡ Some x → slice_get (items files) n ≡ Some y
      → ((m : ℕ) → Contains (next files n) m → values m ≡ others m)
      → outcome_of (judgement_of files values x x.value) ≡ outcome_of (judgement_of files others y y.value)
  judgements n x y values others e h agree =
      let one = same_item n x y e h in
      ap outcome_of (judged_alike files values others x (λ m there. agree m (subst (λ ms. Contains ms m) (sym (next_is n x e)) there)) ∙ ap (λ z. judgement_of files others z z.value) one)

  pub one_outcome : (n : ℕ) (o p : Outcome) → HasOutcome files n o → HasOutcome files n p → o ≡ p
  one_outcome n o p (unformed _ x e u) (unformed _ y h v) = refl
  one_outcome n o p (unformed _ x e u) (unknown _ y h v w) = absurd cc
  one_outcome n o p (unformed _ x e u) (cyclic _ y h v w c) = absurd cc
  one_outcome n o p (unformed _ x e u) (behind _ y h v w c m q there has lacks) = refl
  one_outcome n o p (unformed _ x e u) (judged _ y h v w c values has) = absurd cc
  one_outcome n o p (unknown _ x e u k) (unformed _ y h v) = absurd cc
  one_outcome n o p (unknown _ x e u k) (unknown _ y h v w) = refl
  one_outcome n o p (unknown _ x e u k) (cyclic _ y h v w c) = absurd cc
  one_outcome n o p (unknown _ x e u k) (behind _ y h v w c m q there has lacks) = absurd cc
  one_outcome n o p (unknown _ x e u k) (judged _ y h v w c values has) = absurd cc
  one_outcome n o p (cyclic _ x e u k i) (unformed _ y h v) = absurd cc
  one_outcome n o p (cyclic _ x e u k i) (unknown _ y h v w) = absurd cc
  one_outcome n o p (cyclic _ x e u k i) (cyclic _ y h v w c) = refl
  one_outcome n o p (cyclic _ x e u k i) (behind _ y h v w c m q there has lacks) = absurd (c i)
  one_outcome n o p (cyclic _ x e u k i) (judged _ y h v w c values has) = absurd (c i)
  one_outcome n o p (behind _ x e u k i m q there has lacks) (unformed _ y h v) = refl
  one_outcome n o p (behind _ x e u k i m q there has lacks) (unknown _ y h v w) = absurd cc
  one_outcome n o p (behind _ x e u k i m q there has lacks) (cyclic _ y h v w c) = absurd (i c)
  one_outcome n o p (behind _ x e u k i m q there has lacks) (behind _ y h v w c j r lies gets misses) = refl
  one_outcome n o p (behind _ x e u k i m q there has lacks) (judged _ y h v w c values all) =
      absurd (given_is (values m) q (one_outcome m q (Given (values m)) has (all m there)) lacks)
  one_outcome n o p (judged _ x e u k i values all) (unformed _ y h v) = absurd cc
  one_outcome n o p (judged _ x e u k i values all) (unknown _ y h v w) = absurd cc
  one_outcome n o p (judged _ x e u k i values all) (cyclic _ y h v w c) = absurd (i c)
  one_outcome n o p (judged _ x e u k i values all) (behind _ y h v w c m q there has lacks) =
      absurd (given_is (values m) q (sym (one_outcome m (Given (values m)) q (all m there) has)) lacks)
  one_outcome n o p (judged _ x e u k i values all) (judged _ y h v w c others these) =
      judgements n x y values others e h (λ m there. same_value (values m) (others m) (one_outcome m (Given (values m)) (Given (others m)) (all m there) (these m there)))
