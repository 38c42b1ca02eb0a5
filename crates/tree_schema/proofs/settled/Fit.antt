-- The value of each item fits what is wanted of it, where the literals of the files hold what their kind may hold.
use Rattle.std.proofs.Common.{◌≡◌, ℕ, pos, ◌+ℤ◌, true, Bool, List, Option, Some, None, Result, Ok, Err, Contains, slice_get, refl, sym, ap, ◌∙◌, subst}
use Rattle.std.proofs.lemmas.List.Elements.{Contains-append_left}
use Rattle.aidl_base.specs.Results.{◌>>=◌}
use Rattle.aidl_base.specs.declared.constant.Const.{Const, out-Const}
use Rattle.aidl_syntax.specs.declared.tree.DottedTree.{DottedTree}
use Rattle.aidl_syntax.specs.Sources.{Source}
use Rattle.const_values.specs.declared.fault.ConstFault.{ConstFault}
use Rattle.const_values.specs.declared.width.Width.TheVariants.{Narrow, Wide}
use Rattle.const_values.specs.Evaluation.{evaluated}
use Rattle.const_values.specs.Operands.{Operand, number}
use Rattle.const_values.specs.Wanted.{fitted}
use Rattle.const_eval.specs.declared.outcome.Outcome.{Outcome}
use Rattle.const_eval.specs.declared.outcome.Outcome.TheVariants.{Given}
use Rattle.const_items.specs.Dependence.{target, number_of, names_in, number_before, depends_on, next, next_of}
use Rattle.const_items.specs.Items.{Item, Written, written, first, after, items, number_at}
use Rattle.const_eval.specs.Outcomes.{HasOutcome, Values, operand_at, operand_of, wanted_of, meaning, judgement_of, outcome_of, named_enum, one_more, number_in}
use Rattle.const_eval.specs.Outcomes.HasOutcome.{unformed, unknown, cyclic, behind, judged}
use Rattle.const_eval.proofs.lemmas.Agree.{kept}
use Rattle.tree_schema.proofs.settled.Plain.{is_plain, is_plain_expr, evaluated-plain, fits, fitted-fits, level-plain}

-- each literal in what is written holds what its kind may hold
abbrev pub is_plain_written : Written → Bool
is_plain_written (written e) = is_plain_expr e
is_plain_written first = true
is_plain_written (after place) = true

bound : {A B : Type 0} (r : Result A ConstFault) (f : A → Result B ConstFault) (c : B) → (r >>= f) ≡ Ok c → (a : A) × (r ≡ Ok a) × (f a ≡ Ok c)
bound (Ok a) f c e = (a, refl, e)
bound (Err fault) f c e = cc

module _ (files : List Source) (values : Values) (x : Item)
    (fit : (m : ℕ) → Contains (depends_on files x) m → (y : Item) → slice_get (items files) m ≡ Some y → fits y.wanted (out-Const (values m)) ≡ true)
    (there : (m : ℕ) → Contains (depends_on files x) m → (y : Item) × (slice_get (items files) m ≡ Some y)) where
  number_plain : (o : Option ℕ) → ((m : ℕ) → o ≡ Some m → Contains (depends_on files x) m) → (a : Operand) → operand_at (items files) values o ≡ Ok a → is_plain a ≡ true
  number_plain None h a e = cc
  number_plain (Some m) h a e =
      let y = there m (h m refl) in
      let is : operand_of y.0.wanted (values m) ≡ Ok a = ap (λ (o : Option Item). operand_of (wanted_of o) (values m)) (sym y.1) ∙ e in
      level-plain y.0.wanted (out-Const (values m)) (fit m (h m refl) y.0 y.1) a is

  name_plain : (d : DottedTree) → Contains (names_in x.value) d → (a : Operand) → meaning files values x d ≡ Ok a → is_plain a ≡ true
  name_plain d h a e = number_plain (number_of files (target files x d))
      (λ m is. Contains-append_left _ (number_before files x x.value) m (kept (λ d. number_of files (target files x d)) (names_in x.value) h.0 d m h.1 h.2 is)) a e

  before_fits : (o : Option ℕ) (c : Const) → one_more x.wanted values o ≡ Ok c → fits x.wanted (out-Const c) ≡ true
  before_fits None c e = cc
  before_fits (Some m) c e = fitted-fits x.wanted None (number Wide (number_in (out-Const (values m)) +ℤ pos 1)) refl c e

  written_fits : (v : Written) → x.value ≡ v → is_plain_written v ≡ true → (c : Const) → judgement_of files values x v ≡ Ok c → fits x.wanted (out-Const c) ≡ true
  written_fits (written e) is h c q =
      let step = bound (evaluated (meaning files values x) e) (fitted x.wanted (named_enum files x e)) c q in
      let plain = evaluated-plain (meaning files values x) e (λ d k. name_plain d (subst (λ v. Contains (names_in v) d) (sym is) k)) h step.0 step.1 in
      fitted-fits x.wanted (named_enum files x e) step.0 plain c step.2
  written_fits first is h c q = fitted-fits x.wanted None (number Narrow (pos 0)) refl c q
  written_fits (after place) is h c q = before_fits (number_at (items files) x.file place) c q

  pub judgement-fits : is_plain_written x.value ≡ true → (c : Const) → judgement_of files values x x.value ≡ Ok c → fits x.wanted (out-Const c) ≡ true
  judgement-fits h c q = written_fits x.value refl h c q

module _ (files : List Source) (plain : (n : ℕ) (x : Item) → slice_get (items files) n ≡ Some x → is_plain_written x.value ≡ true) where
  same_item : (n : ℕ) (x y : Item) → slice_get (items files) n ≡ Some x → slice_get (items files) n ≡ Some y → x ≡ y
  same_item n x y e h = cc

  next_is : (n : ℕ) (x : Item) → slice_get (items files) n ≡ Some x → next files n ≡ depends_on files x
  next_is n x e = ap (next_of files) e

  -- what has an outcome is an item
  pub has-item : (n : ℕ) (o : Outcome) → HasOutcome files n o → (y : Item) × (slice_get (items files) n ≡ Some y)
  has-item n o (unformed _ x e u) = (x, e)
  has-item n o (unknown _ x e u k) = (x, e)
  has-item n o (cyclic _ x e u k i) = (x, e)
  has-item n o (behind _ x e u k i m q there has lacks) = (x, e)
  has-item n o (judged _ x e u k i values all) = (x, e)

  given_is : (r : Result Const ConstFault) (c : Const) → outcome_of r ≡ Given c → r ≡ Ok c
  given_is (Ok d) c e = cc
  given_is (Err fault) c e = cc

  judged_fits : (n : ℕ) (x y : Item) (values : Values) → slice_get (items files) n ≡ Some x → slice_get (items files) n ≡ Some y
      → ((m : ℕ) → Contains (next files n) m → HasOutcome files m (Given (values m)))
      → ((m : ℕ) → Contains (next files n) m → (z : Item) → slice_get (items files) m ≡ Some z → fits z.wanted (out-Const (values m)) ≡ true)
      → (c : Const) → outcome_of (judgement_of files values x x.value) ≡ Given c → fits y.wanted (out-Const c) ≡ true
  judged_fits n x y values e h all fit c q =
      let same = same_item n x y e h in
      let back : (m : ℕ) → Contains (depends_on files x) m → Contains (next files n) m = λ m there. subst (λ ms. Contains ms m) (sym (next_is n x e)) there in
      let fine = judgement-fits files values x (λ m there z at. fit m (back m there) z at) (λ m there. has-item m (Given (values m)) (all m (back m there)))
      (plain n x e) c (given_is (judgement_of files values x x.value) c q) in
      subst (λ z. fits z.wanted (out-Const c) ≡ true) same fine

  -- a value fits what is wanted of its item
  pub all-fit : (n : ℕ) (o : Outcome) → HasOutcome files n o → (y : Item) → slice_get (items files) n ≡ Some y → (c : Const) → o ≡ Given c → fits y.wanted (out-Const c) ≡ true
  all-fit n o (unformed _ x e u) y at c q = absurd cc
  all-fit n o (unknown _ x e u k) y at c q = absurd cc
  all-fit n o (cyclic _ x e u k i) y at c q = absurd cc
  all-fit n o (behind _ x e u k i m p there has lacks) y at c q = absurd cc
  all-fit n o (judged _ x e u k i values all) y at c q = judged_fits n x y values e at all (λ m there z is. all-fit m (Given (values m)) (all m there) z is (values m) refl) c q
