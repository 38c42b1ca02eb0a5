-- An item with a literal has its value, and one that names such an enumerator has that one's.
use Rattle.std.proofs.Common.{◌≡◌, ℕ, ℤ, ◌<◌, ◌==◌, true, false, ◌||◌, if◌then◌else◌, List, [], ◌∷◌, ◌++◌, length, Some, is_none, Ok, Err, slice_get, refl, sym, ap, subst, ◌∙◌, arith, zero, suc, append_assoc}
use Rattle.std.specs.Prelude.{slice_index_or}
use Rattle.std.specs.List.{Contains, list_any, filter_map, cons_option}
use Rattle.std.proofs.lemmas.Bool.Decides.{nat_tests}
use Rattle.aidl_base.specs.Results.{◌>>=◌}
use Rattle.aidl_base.specs.declared.name.Ident.{Ident}
use Rattle.aidl_base.specs.declared.constant.Const.{Const, out-Const}
use Rattle.aidl_base.specs.declared.constant.Const.TheOpen.{Const-F}
use Rattle.aidl_base.specs.declared.constant.Const.TheVariants as constant
use Rattle.aidl_syntax.specs.declared.tree.DottedTree.{DottedTree}
use Rattle.aidl_syntax.specs.Trees.{Expr}
use Rattle.aidl_syntax.specs.Trees as tree
use Rattle.aidl_syntax.specs.Trees.Expr.{name}
use Rattle.graph_cycles.specs.Paths.{IsPath}
use Rattle.const_values.specs.declared.fault.ConstFault.TheVariants as fault
use Rattle.aidl_syntax.specs.Sources.{Source}
use Rattle.declared_names.specs.Declarations.{declarations}
use Rattle.name_resolution.specs.Resolution.{resolved}
use Rattle.const_values.specs.declared.wanted.Wanted.TheVariants as wanted
use Rattle.const_values.specs.declared.width.Width.{Width}
use Rattle.const_values.specs.declared.width.Width.TheVariants.{Narrow, Wide}
use Rattle.const_values.specs.Operands.{Operand}
use Rattle.const_values.specs.Operands as operand
use Rattle.const_values.specs.Wanted.{fitted}
use Rattle.const_eval.specs.declared.outcome.Outcome.{Outcome}
use Rattle.const_eval.specs.declared.outcome.Outcome.TheVariants.{Given}
use Rattle.const_items.specs.Items.{Item, written, items, number_at, place_of}
use Rattle.const_items.specs.Dependence.{of_enumerator, target, target_by, target_behind, member_of, number_of, names_in, has_unknown_name, depends_on, number_before, next, next_of}
use Rattle.const_eval.specs.Outcomes as outcomes
use Rattle.const_eval.specs.Outcomes.{HasOutcome, IsCyclic, Values, judged, judgement_of, expression_of, outcome_of, meaning, operand_at, operand_of, of_level, wanted_of, named_enum, is_given}
use Rattle.const_eval.proofs.lemmas.OneOutcome.{one_outcome}
use Rattle.aidl_schema.specs.declared.schema.Backing.{Backing}
use Rattle.aidl_schema.specs.declared.schema.Backing.TheVariants as backing
use Rattle.dump_reading.proofs.settled.Literals.{Fits, wanted_backing}

-- Nothing stands in an empty list; one thing in a list of one.

no_one : {X : Type 0} (x : X) → Contains [] x → ⊥
no_one x h = let lt = h.1 in absurd (omega arith)

the_one : (m k : ℕ) → Contains (m ∷ []) k → k ≡ m
the_one m k h = by h.0 h.1 h.2 where
  by : (j : ℕ) → j < length (m ∷ []) → slice_index_or (m ∷ []) j k ≡ k → k ≡ m
  by zero lt e = sym e
  by (suc j) lt e = absurd (omega arith)

-- An item whose expression has no name.
pub record IsPlain (x : Item) : Type 0 where
  pub judged : x.unjudged ≡ false
  pub expr : Expr
  pub is : x.value ≡ written expr
  pub level : Const-F Const
  pub fits : Fits x.wanted expr level

-- an enumerator of a tree: its item is plain, and has a number of the backing
pub record IsNumbered (files : List Source) (m : ℕ) (y : Item) : Type 0 where
  pub there : slice_get (items files) m ≡ Some y
  pub plain : IsPlain y
  pub backing : Backing
  pub wants : y.wanted ≡ wanted_backing backing
  pub number : ℤ
  pub is : plain.level ≡ Const-F.Number number

-- An item that names one.
pub record IsNaming (files : List Source) (x : Item) : Type 0 where
  pub judged : x.unjudged ≡ false
  pub offset : ℕ
  pub dotted : DottedTree
  pub is : x.value ≡ written (name offset dotted)
  pub file : ℕ
  pub enum : ℕ
  pub enumerator : tree.Enumerator
  pub means : target files x dotted ≡ Some (of_enumerator file enum enumerator)
  pub wants : x.wanted ≡ wanted.Enum enum
  pub place : ℕ
  pub found : number_at (items files) file (place_of enumerator) ≡ Some place
  pub item : Item
  pub numbered : IsNumbered files place item

module _ (files : List Source) where
  depends_none : (x : Item) → IsPlain x → depends_on files x ≡ []
  depends_none x p =
      ap (λ w. filter_map (λ d. number_of files (target files x d)) (names_in w) ++ number_before files x w) p.is
      ∙ ap (λ ds. filter_map (λ d. number_of files (target files x d)) ds ++ []) p.fits.1.plain

  next_none : (n : ℕ) (x : Item) → slice_get (items files) n ≡ Some x → IsPlain x → next files n ≡ []
  next_none n x at p = ap (next_of files) at ∙ depends_none x p

  no_cycle : (n : ℕ) → next files n ≡ [] → (m : ℕ) (js : List ℕ) → IsPath (next files) n js m → ⊥
  no_cycle n e m [] h = no_one m (subst (λ xs. Contains xs m) e h)
  no_cycle n e m (j ∷ js) h = no_one j (subst (λ xs. Contains xs j) e h.0)

  pub plain_outcome : (n : ℕ) (x : Item) → slice_get (items files) n ≡ Some x → (p : IsPlain x) → (c : Const) × HasOutcome files n (Given c) × (out-Const c ≡ p.level)
  plain_outcome n x at p =
      let values : Values = λ m. constant.Truth true in
      let e = p.expr in let g = p.fits.1 in
      let f = p.fits.2 (named_enum files x e) in
      let none = next_none n x at p in
      let unknown : has_unknown_name files x ≡ false = ap (λ w. list_any (λ d. is_none (target files x d)) (names_in w)) p.is ∙ ap (list_any (λ d. is_none (target files x d))) g.plain in
      let value : judgement_of files values x x.value ≡ Ok f.0 = ap (judgement_of files values x) p.is ∙ ap (λ r. r >>= fitted x.wanted (named_enum files x e)) (g.value (meaning files values x)) ∙ f.1 in (
        f.0,
        subst (λ r. HasOutcome files n (outcome_of r)) value
            (judged n x at p.judged unknown (λ cycle. no_cycle n none n cycle.0 cycle.1) values (λ m h. absurd (no_one m (subst (λ xs. Contains xs m) none h)))),
        f.2,
      )

  backing_operand : (b : Backing) (z : ℤ) → (w : Width) × (of_level (wanted_backing b) (Const-F.Number z) ≡ Ok (operand.number w z))
  backing_operand backing.Byte z = (Narrow, refl)
  backing_operand backing.Int z = (Narrow, refl)
  backing_operand backing.Long z = (Wide, refl)

  itself : (n : ℕ) → (n == n) ≡ true
  itself n = grind (arith, nat_tests)

  pub naming_outcome : (n : ℕ) (x : Item) → slice_get (items files) n ≡ Some x → (p : IsNaming files x) → HasOutcome files n (Given (constant.Number p.numbered.number))
  naming_outcome n x at p =
      let m = p.place in let y = p.item in let q = p.numbered in
      let o = plain_outcome m y q.there q.plain in
      let values : Values = λ k. o.0 in
      let e : Expr = name p.offset p.dotted in
      let to : number_of files (target files x p.dotted) ≡ Some m = ap (number_of files) p.means ∙ p.found in
      let one : next files n ≡ m ∷ [] =
      ap (next_of files) at ∙ ap (λ w. filter_map (λ d. number_of files (target files x d)) (names_in w) ++ number_before files x w) p.is ∙ ap (λ k. cons_option k [] ++ []) to in
      let none = next_none m y q.there q.plain in
      let unknown : has_unknown_name files x ≡ false = ap (λ w. list_any (λ d. is_none (target files x d)) (names_in w)) p.is ∙ ap (λ t. is_none t || false) p.means in
      let back = backing_operand q.backing q.number in
      let operand_is : meaning files values x p.dotted ≡ Ok (operand.number back.0 q.number) =
      ap (operand_at (items files) values) to ∙ ap (λ i. operand_of (wanted_of i) o.0) q.there ∙ ap (λ w. of_level w (out-Const o.0)) q.wants ∙ ap (of_level (wanted_backing q.backing)) (o.2 ∙ q.is) ∙ back.1 in
      let named : named_enum files x e ≡ Some p.enum = ap outcomes.enum_of p.means in
      let value : judgement_of files values x x.value ≡ Ok (constant.Number q.number) =
      ap (judgement_of files values x) p.is ∙ ap (λ r. r >>= fitted x.wanted (named_enum files x e)) operand_is
      ∙ ap (λ w. fitted w (named_enum files x e) (operand.number back.0 q.number)) p.wants ∙ ap (λ t. fitted (wanted.Enum p.enum) t (operand.number back.0 q.number)) named
      ∙ ap (λ b. if b then Ok (constant.Number q.number) else Err fault.Mismatch) (itself p.enum) in
      subst (λ r. HasOutcome files n (outcome_of r)) value
      (judged n x at p.judged unknown (λ cycle. no_round cycle.0 cycle.1 one none) values
      (λ k h. subst (λ (j : ℕ). HasOutcome files j (Given o.0)) (sym (the_one m k (subst (λ xs. Contains xs k) one h))) o.1)) where
        apart : (m : ℕ) → next files n ≡ m ∷ [] → next files m ≡ [] → n ≡ m → ⊥
        apart m one none is = let r : m ∷ [] ≡ [] = sym one ∙ ap (next files) is ∙ none in cc

        no_round : (js : List ℕ) → IsPath (next files) n js n → next files n ≡ p.place ∷ [] → next files p.place ≡ [] → ⊥
        no_round [] h one none = apart p.place one none (the_one p.place n (subst (λ xs. Contains xs n) one h))
        no_round (j ∷ js) h one none =
            let is : j ≡ p.place = the_one p.place j (subst (λ xs. Contains xs j) one h.0) in
            no_cycle p.place none n js (subst (λ (k : ℕ). IsPath (next files) k js n) is h.1)

  pub given_by : (n : ℕ) (o : Outcome) (c : Const) → HasOutcome files n o → HasOutcome files n (Given c) → is_given o ≡ true
  given_by n o c h k = ap is_given (one_outcome files n o (Given c) h k)

  pub outcome_is : (n : ℕ) (o : Outcome) (c : Const) → HasOutcome files n o → HasOutcome files n (Given c) → o ≡ Given c
  outcome_is n o c h k = one_outcome files n o (Given c) h k

  -- A name of several parts is a member of what the others mean.

  behind_is : (x : Item) (before : List Ident) (a : Ident) (more : List Ident) (i : Ident) → target_behind files x before a (more ++ i ∷ []) ≡ member_of (declarations files) i (resolved files x.file x.scope (before ++ a ∷ more))
  behind_is x before a [] i = refl
  behind_is x before a (m ∷ more) i = behind_is x (before ++ a ∷ []) m more i ∙ ap (λ is. member_of (declarations files) i (resolved files x.file x.scope is)) (append_assoc before (a ∷ []) (m ∷ more))

  pub target_last : (x : Item) (a : Ident) (more : List Ident) (i : Ident) → target_by files x ((a ∷ more) ++ i ∷ []) ≡ member_of (declarations files) i (resolved files x.file x.scope (a ∷ more))
  target_last x a [] i = refl
  target_last x a (m ∷ more) i = behind_is x (a ∷ []) m more i
