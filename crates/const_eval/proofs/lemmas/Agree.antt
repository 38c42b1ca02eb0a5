-- Values that agree on what an item depends on give it one judgement.
use Rattle.std.proofs.Common.{◌≡◌, ℕ, List, [], ◌∷◌, Option, Some, None, Result, zero, suc, ◌<◌, length, slice_index_or, refl, sym, ap, ◌∙◌, subst, Contains, arith}
use Rattle.std.specs.List.{filter_map, cons_option}
use Rattle.std.proofs.lemmas.List.Elements.{Contains-append_left, Contains-append_right}
use Rattle.aidl_base.specs.Results.{◌>>=◌}
use Rattle.aidl_syntax.specs.declared.tree.DottedTree.{DottedTree}
use Rattle.aidl_syntax.specs.Trees.{Expr}
use Rattle.aidl_syntax.specs.Trees.Expr.{literal, name, group, unary, binary}
use Rattle.aidl_syntax.specs.Sources.{Source}
use Rattle.const_values.specs.declared.fault.ConstFault.{ConstFault}
use Rattle.const_values.specs.Operands.{Operand}
use Rattle.const_values.specs.Symbols.{unary_operator, binary_operator}
use Rattle.const_values.specs.Evaluation.{evaluated, before, then_right}
use Rattle.const_values.specs.Wanted.{fitted}
use Rattle.const_items.specs.Items.{Item, Written, written, first, after, items, number_at}
use Rattle.const_items.specs.Dependence.{target, number_of, names_of, names_in, number_before, depends_on}
use Rattle.std.specs.List.{slice_get}
use Rattle.const_eval.specs.Outcomes.{Values, operand_at, operand_of, wanted_of, meaning, judgement_of, above, one_more, named_enum}

-- meanings that agree on the names in an expression
pub evaluated_alike : (m w : DottedTree → Result Operand ConstFault) (e : Expr) → ((d : DottedTree) → Contains (names_of e) d → m d ≡ w d) → evaluated m e ≡ evaluated w e
evaluated_alike m w (literal offset token) same = refl
evaluated_alike m w (name offset d) same = same d (Contains-append_left (d ∷ []) [] d here)
  where
    here : Contains (d ∷ []) d
    here = (0, omega arith, refl)
evaluated_alike m w (group offset a) same = evaluated_alike m w a same
evaluated_alike m w (unary offset symbol a) same = ap (λ r. r >>= before (unary_operator symbol)) (evaluated_alike m w a same)
evaluated_alike m w (binary offset symbol a b) same =
    ap (λ r. r >>= then_right (binary_operator symbol) (evaluated m b)) (evaluated_alike m w a (λ d h. same d (Contains-append_left (names_of a) (names_of b) d h)))
    ∙ ap (λ r. evaluated w a >>= then_right (binary_operator symbol) r) (evaluated_alike m w b (λ d h. same d (Contains-append_right (names_of a) (names_of b) d h)))

behind : {Y : Type 0} (o : Option Y) (ys : List Y) (y : Y) → Contains ys y → Contains (cons_option o ys) y
behind None ys y h = h
behind (Some z) ys y h = Contains-append_right (z ∷ []) ys y h

at_front : {Y : Type 0} (o : Option Y) (ys : List Y) (y : Y) → o ≡ Some y → Contains (cons_option o ys) y
at_front o ys y e = rw e (0, omega arith, refl)

-- what a function gives of an element is among all that it gives
pub kept : {X Y : Type 0} (f : X → Option Y) (xs : List X) (k : ℕ) (x : X) (y : Y) → k < length xs → slice_index_or xs k x ≡ x → f x ≡ Some y → Contains (filter_map f xs) y
kept f [] k x y lt same e = absurd (omega arith)
kept f (z ∷ xs) zero x y lt same e = at_front (f z) (filter_map f xs) y (ap f same ∙ e)
kept f (z ∷ xs) (suc k) x y lt same e = behind (f z) (filter_map f xs) y (kept f xs k x y (omega arith) same e)

module _ (files : List Source) (values others : Values) (x : Item) (agree : (m : ℕ) → Contains (depends_on files x) m → values m ≡ others m) where
  by_number : (o : Option ℕ) → ((m : ℕ) → o ≡ Some m → values m ≡ others m) → operand_at (items files) values o ≡ operand_at (items files) others o
  by_number None same = refl
  by_number (Some m) same = ap (operand_of (wanted_of (slice_get (items files) m))) (same m refl)

  named : (d : DottedTree) → Contains (names_in x.value) d → (m : ℕ) → number_of files (target files x d) ≡ Some m → values m ≡ others m
  named d h m e = agree m (Contains-append_left _ (number_before files x x.value) m (kept (λ d. number_of files (target files x d)) (names_in x.value) h.0 d m h.1 h.2 e))

  meaning_alike : (d : DottedTree) → Contains (names_in x.value) d → meaning files values x d ≡ meaning files others x d
  meaning_alike d h = by_number (number_of files (target files x d)) (named d h)

  before_alike : (o : Option ℕ) → ((m : ℕ) → o ≡ Some m → values m ≡ others m) → one_more x.wanted values o ≡ one_more x.wanted others o
  before_alike None same = refl
  before_alike (Some m) same = ap (above x.wanted) (same m refl)

  one_before : (place : ℕ) → x.value ≡ after place → (m : ℕ) → number_at (items files) x.file place ≡ Some m → values m ≡ others m
  one_before place is m e =
      let here : Contains (number_before files x (after place)) m = at_front (number_at (items files) x.file place) [] m e in
      agree m (Contains-append_right _ (number_before files x x.value) m (subst (λ v. Contains (number_before files x v) m) (sym is) here))

  judged_by : (v : Written) → x.value ≡ v → judgement_of files values x v ≡ judgement_of files others x v
  judged_by (written e) is = ap (λ r. r >>= fitted x.wanted (named_enum files x e))
      (evaluated_alike (meaning files values x) (meaning files others x) e (λ d h. meaning_alike d (subst (λ v. Contains (names_in v) d) (sym is) h)))
  judged_by first is = refl
  judged_by (after place) is = before_alike (number_at (items files) x.file place) (one_before place is)

  -- one judgement
  pub judged_alike : judgement_of files values x x.value ≡ judgement_of files others x x.value
  judged_alike = judged_by x.value refl
