-- The value that is wanted of an enum is that of one of its enumerators.
use Rattle.std.proofs.Common.{◌≡◌, ◌==◌, ℕ, ℤ, pos, negsuc, ◌+ℤ◌, zero, suc, Bool, true, false, cond, if◌then◌else◌, List, [], ◌∷◌, ◌++◌, Option, Some, None, Result, Ok, Err, Contains, slice_get, refl, sym, ap, ◌∙◌, subst, arith}
use Rattle.std.specs.List.{find}
use Rattle.std.proofs.lemmas.Bool.Decides.{nat_tests}
use Rattle.std.proofs.lemmas.List.Elements.{Contains-append_left}
use Rattle.std.proofs.lemmas.Option.{slice_get_within}
use Rattle.aidl_base.specs.Results.{◌>>=◌}
use Rattle.aidl_base.specs.declared.constant.Const.{Const, out-Const}
use Rattle.aidl_base.specs.declared.constant.Const.TheOpen.{Const-F}
use Rattle.aidl_base.specs.declared.constant.Const.TheVariants as value
use Rattle.aidl_base.specs.declared.name.Ident.{Ident}
use Rattle.aidl_syntax.specs.declared.tree.DottedTree.{DottedTree}
use Rattle.aidl_syntax.specs.Trees.{Expr, Enumerator, Body, Members}
use Rattle.aidl_syntax.specs.Trees.Body.{parcelable, union, enum, interface}
use Rattle.aidl_syntax.specs.Trees.Expr.{literal, name, group, unary, binary}
use Rattle.aidl_syntax.specs.Trees.Members.{none, field as with_field, constant as with_constant, method as with_method, nested as with_nested}
use Rattle.aidl_syntax.specs.Members.{Member, members, listed, body}
use Rattle.aidl_syntax.specs.Members.Member.{field, constant, method, enumerator, nested}
use Rattle.name_resolution.specs.declared.meaning.Resolved.{Resolved}
use Rattle.name_resolution.specs.declared.meaning.Resolved.TheVariants.{Builtin, ListWord, LeftOut, Declared}
use Rattle.declared_names.specs.Called.{called, is_called}
use Rattle.declared_names.specs.Declarations.{Entry, declarations}
use Rattle.name_resolution.specs.Resolution.{resolved, or_else}
use Rattle.declared_names.specs.Names.{text as bytes_of}
use Rattle.aidl_syntax.specs.Sources.{Source}
use Rattle.const_values.specs.declared.fault.ConstFault.{ConstFault}
use Rattle.const_values.specs.declared.fault.ConstFault.TheVariants as fault
use Rattle.const_values.specs.declared.wanted.Wanted.{Wanted}
use Rattle.const_values.specs.declared.wanted.Wanted.TheVariants as wanted
use Rattle.const_values.specs.declared.width.Width.{Width}
use Rattle.const_values.specs.declared.width.Width.TheVariants.{Narrow, Wide}
use Rattle.const_values.specs.Evaluation.{evaluated}
use Rattle.const_values.specs.Operands.{Operand, truth, number, character, text}
use Rattle.const_values.specs.Wanted.{fitted}
use Rattle.const_eval.specs.declared.outcome.Outcome.{Outcome}
use Rattle.const_eval.specs.declared.outcome.Outcome.TheVariants.{Given}
use Rattle.const_items.specs.Dependence.{Target, of_constant, of_enumerator, target, target_by, target_behind, target_of_part, target_if, member_at, member_of, is_enumerator, only_enumerators, only_constants, constant_around, enumerator_beside, number_of, names_in, number_before, depends_on, next, next_of}
use Rattle.const_items.specs.Items.{Item, Written, written, first, after, items, number_at, place_of}
use Rattle.const_eval.specs.Outcomes.{HasOutcome, Values, operand_at, of_level, of_number, wanted_of, meaning, judgement_of, outcome_of, named_enum, enum_of, one_more, number_in}
use Rattle.const_eval.specs.Outcomes.HasOutcome.{unformed, unknown, cyclic, behind, judged}
use Rattle.const_eval.proofs.lemmas.Agree.{kept}
use Rattle.const_eval.proofs.lemmas.OneOutcome.{one_outcome}
use Rattle.tree_schema.specs.Values.{Outcomes, enumerator_value, whole, or_zero, value_of, value_of_item}
use Rattle.tree_schema.proofs.lemmas.walked.Lists.{there-mapped}
use Rattle.tree_schema.proofs.lemmas.settled.Settled.{AreOutcomes}

-- it is an enumerator of the enum with that number, in that file
abbrev pub IsOf : List Entry → ℕ → ℕ → Enumerator → Type 0
IsOf entries file k x = (e : Entry) × (slice_get entries k ≡ Some e) × (e.file ≡ file) × (es : List Enumerator) × (body e.tree ≡ enum es) × (i : ℕ) × (slice_get es i ≡ Some x)

listed_none : (ms : Members) (i : ℕ) (x : Enumerator) → slice_get (listed ms) i ≡ Some (enumerator x) → ⊥
listed_none none i x e = cc
listed_none (with_field f ms) zero x e = cc
listed_none (with_field f ms) (suc i) x e = listed_none ms i x e
listed_none (with_constant c ms) zero x e = cc
listed_none (with_constant c ms) (suc i) x e = listed_none ms i x e
listed_none (with_method m ms) zero x e = cc
listed_none (with_method m ms) (suc i) x e = listed_none ms i x e
listed_none (with_nested d ms) zero x e = cc
listed_none (with_nested d ms) (suc i) x e = listed_none ms i x e

among : (b : Body) (i : ℕ) (x : Enumerator) → slice_get (members b) i ≡ Some (enumerator x) → (es : List Enumerator) × (b ≡ enum es) × (j : ℕ) × (slice_get es j ≡ Some x)
among (parcelable ms) i x e = absurd (listed_none ms i x e)
among (union ms) i x e = absurd (listed_none ms i x e)
among (interface oneway ms) i x e = absurd (listed_none ms i x e)
among (enum es) i x e =
    let y = there-mapped enumerator es i (enumerator x) e in
    let same : y.0 ≡ x = same_enumerator y.0 x y.2 in
    (es, refl, i, y.1 ∙ ap Some same) where
      same_enumerator : (a b : Enumerator) → enumerator a ≡ enumerator b → a ≡ b
      same_enumerator a b q = cc

found_there : {X : Type 0} (p : X → Bool) (xs : List X) (x : X) → find p xs ≡ Some x → (i : ℕ) × (slice_get xs i ≡ Some x)
found_there p [] x e = cc
found_there p (y ∷ xs) x e = by (p y) e (found_there p xs x) where
  by : (b : Bool) → cond b (Some y) (find p xs) ≡ Some x → (find p xs ≡ Some x → (i : ℕ) × (slice_get xs i ≡ Some x)) → (i : ℕ) × (slice_get (y ∷ xs) i ≡ Some x)
  by true q rest = (0, q)
  by false q rest = let r = rest q in (suc r.0, r.1)

module _ (entries : List Entry) (file k : ℕ) (x : Enumerator) where
  -- what this enumerator is, is one of its enum
  abbrev Tells : Option Target → Type 0
  Tells o = o ≡ Some (of_enumerator file k x) → IsOf entries file k x

  member_tells : (n : ℕ) (part : Ident) → Tells (member_at entries n part)
  member_tells n part h = by (slice_get entries n) refl h where
    inside : (e : Entry) → slice_get entries n ≡ Some e → (o : Option Member) → called e part ≡ o → target_if e.file n o ≡ Some (of_enumerator file k x) → IsOf entries file k x
    inside e at None q g = cc
    inside e at (Some (constant c)) q g = cc
    inside e at (Some (field f)) q g = cc
    inside e at (Some (method m)) q g = cc
    inside e at (Some (nested d)) q g = cc
    inside e at (Some (enumerator y)) q g =
        let number_is : n ≡ k = cc in
        let file_is : e.file ≡ file = cc in
        let same : y ≡ x = cc in
        let there = found_there (is_called (bytes_of part)) (members (body e.tree)) (enumerator y) q in
        let a = among (body e.tree) there.0 y there.1 in
        (e, ap (slice_get entries) (sym number_is) ∙ at, file_is, a.0, a.1, a.2, a.3 ∙ ap Some same)

    by : (o : Option Entry) → slice_get entries n ≡ o → elim o as (λ _. Option Target) [ None ↦ None | Some e ↦ target_if e.file n (called e part) ] ≡ Some (of_enumerator file k x) → IsOf entries file k x
    by None at g = cc
    by (Some e) at g = inside e at (called e part) refl g

  either_tells : (o p : Option Target) → Tells o → Tells p → Tells (or_else o p)
  either_tells None p h g = g
  either_tells (Some t) p h g = h

  if_tells : (b : Bool) (o p : Option Target) → Tells o → Tells p → Tells (if b then o else p)
  if_tells true o p h g = h
  if_tells false o p h g = g

  none_tells : Tells None
  none_tells e = cc

  around_tells : (levels : ℕ) (part : Ident) (scope : Option ℕ) → Tells (constant_around entries levels part scope)
  around_tells zero part scope e = cc
  around_tells (suc levels) part None e = cc
  around_tells (suc levels) part (Some n) e = by (slice_get entries n) (λ outer. around_tells levels part outer) e where
    by : (o : Option Entry) → ((outer : Option ℕ) → Tells (constant_around entries levels part outer))
        → elim o as (λ _. Option Target) [ None ↦ None | Some d ↦ or_else (only_constants (member_at entries n part)) (constant_around entries levels part d.outer) ] ≡ Some (of_enumerator file k x) → IsOf entries file k x
    by None later q = cc
    by (Some d) later q =
        either_tells (only_constants (member_at entries n part)) (constant_around entries levels part d.outer)
        (if_tells (is_enumerator (member_at entries n part)) None (member_at entries n part) none_tells (member_tells n part)) (later d.outer) q

  part_tells : (y : Item) (part : Ident) → Tells (target_of_part entries y part)
  part_tells y part =
      either_tells (enumerator_beside entries y part) (constant_around entries _ part (Some y.scope))
      (if_tells y.enumerates (only_enumerators (member_at entries y.scope part)) None
      (if_tells (is_enumerator (member_at entries y.scope part)) (member_at entries y.scope part) None (member_tells y.scope part) none_tells) none_tells)
      (around_tells _ part (Some y.scope))

  of_tells : (part : Ident) (r : Option Resolved) → Tells (member_of entries part r)
  of_tells part None e = cc
  of_tells part (Some (Declared n)) e = member_tells n part e
  of_tells part (Some (Builtin b)) e = cc
  of_tells part (Some ListWord) e = cc
  of_tells part (Some LeftOut) e = cc

module _ (files : List Source) (file k : ℕ) (x : Enumerator) where
  behind_tells : (y : Item) (before : List Ident) (part : Ident) (more : List Ident) → target_behind files y before part more ≡ Some (of_enumerator file k x) → IsOf (declarations files) file k x
  behind_tells y before part [] e = of_tells (declarations files) file k x part (resolved files y.file y.scope before) e
  behind_tells y before part (n ∷ more) e = behind_tells y (before ++ part ∷ []) n more e

  by_tells : (y : Item) (names : List Ident) → target_by files y names ≡ Some (of_enumerator file k x) → IsOf (declarations files) file k x
  by_tells y [] e = cc
  by_tells y (part ∷ []) e = part_tells (declarations files) file k x y part e
  by_tells y (part ∷ n ∷ more) e = behind_tells y (part ∷ []) n more e

  -- a name that means an enumerator means one of its enum
  pub target-tells : (y : Item) (d : DottedTree) → target files y d ≡ Some (of_enumerator file k x) → IsOf (declarations files) file k x
  target-tells y d e = by_tells y d.name.0 e

bound : {A B : Type 0} (r : Result A ConstFault) (f : A → Result B ConstFault) (c : B) → (r >>= f) ≡ Ok c → (a : A) × (r ≡ Ok a) × (f a ≡ Ok c)
bound (Ok a) f c e = (a, refl, e)
bound (Err fault) f c e = cc

-- an enum takes the number of an enumerator that is named
enum_fit : (k : ℕ) (named : Option ℕ) (a : Operand) (c : Const) → fitted (wanted.Enum k) named a ≡ Ok c → (w : Width) × (z : ℤ) × (a ≡ number w z) × (named ≡ Some k) × (c ≡ value.Number z)
enum_fit k named (truth b) c e = cc
enum_fit k named (character code) c e = cc
enum_fit k named (text x) c e = cc
enum_fit k None (number w z) c e = cc
enum_fit k (Some j) (number w z) c e = by (j == k) refl e where
  by : (b : Bool) → (j == k) ≡ b → (if b then Ok (value.Number z) else Err fault.Mismatch) ≡ Ok c → (v : Width) × (y : ℤ) × (number w z ≡ number v y) × (Some j ≡ Some k) × (c ≡ value.Number y)
  by true q g = let same : j ≡ k = grind (arith, nat_tests) in (w, z, refl, ap Some same, cc)
  by false q g = cc

none_named : {X : Type 0} (k : ℕ) (o : Option ℕ) → o ≡ None → o ≡ Some k → X
none_named k o q e = cc

enum_is : (o : Option Target) (k : ℕ) → enum_of o ≡ Some k → (file : ℕ) × (x : Enumerator) × (o ≡ Some (of_enumerator file k x))
enum_is None k e = cc
enum_is (Some (of_constant f n c)) k e = cc
enum_is (Some (of_enumerator f n x)) k e = let same : n ≡ k = cc in (f, x, ap (λ (j : ℕ). Some (of_enumerator f j x)) same)

number_is : (w : Wanted) (z : ℤ) (v : Width) (y : ℤ) → of_number w z ≡ Ok (number v y) → z ≡ y
number_is wanted.Byte z v y e = cc
number_is wanted.Int z v y e = cc
number_is wanted.Long z v y e = cc
number_is wanted.Character (pos code) v y e = cc
number_is wanted.Character (negsuc n) v y e = cc
number_is wanted.Boolean z v y e = cc
number_is wanted.Text z v y e = cc
number_is (wanted.Enum k) z v y e = cc
number_is wanted.Nothing z v y e = cc

level_is : (w : Wanted) (level : Const-F Const) (v : Width) (y : ℤ) → of_level w level ≡ Ok (number v y) → level ≡ Const-F.Number y
level_is w (Const-F.Number z) v y e = ap Const-F.Number (number_is w z v y e)
level_is w (Const-F.Truth b) v y e = cc
level_is w (Const-F.Text x) v y e = cc
level_is w (Const-F.Members cs) v y e = cc

whole_is : (c : Const) (z : ℤ) → out-Const c ≡ Const-F.Number z → whole c ≡ z
whole_is c z e = ap (λ level. elim level as (λ _. ℤ) [ Const-F.Truth b ↦ pos 0 | Const-F.Number y ↦ y | Const-F.Text x ↦ pos 0 | Const-F.Members cs ↦ pos 0 ]) e

-- the number is the value of an enumerator of the enum with that number
abbrev pub IsEnumerated : List Source → Outcomes → ℕ → ℤ → Type 0
IsEnumerated files outcomes k z = (file : ℕ) × (x : Enumerator) × IsOf (declarations files) file k x × (enumerator_value files outcomes file x ≡ z)

module _ (files : List Source) (outcomes : Outcomes) (are : AreOutcomes files outcomes) where
  has_item : (n : ℕ) (o : Outcome) → HasOutcome files n o → (y : Item) × (slice_get (items files) n ≡ Some y)
  has_item n o (unformed _ x e u) = (x, e)
  has_item n o (unknown _ x e u k) = (x, e)
  has_item n o (cyclic _ x e u k i) = (x, e)
  has_item n o (behind _ x e u k i m q there has lacks) = (x, e)
  has_item n o (judged _ x e u k i values all) = (x, e)

  outcome_is : (m : ℕ) (c : Const) → HasOutcome files m (Given c) → outcomes m ≡ Given c
  outcome_is m c h =
      let y = has_item m (Given c) h in
      one_outcome files m (outcomes m) (Given c) (are m (slice_get_within (items files) m y.0 y.1)) h

  module _ (x : Item) (values : Values) (given : (m : ℕ) → Contains (depends_on files x) m → HasOutcome files m (Given (values m))) where
    number_value : (file : ℕ) (en : Enumerator) (o : Option ℕ) → number_at (items files) file (place_of en) ≡ o → ((m : ℕ) → o ≡ Some m → Contains (depends_on files x) m)
        → (w : Width) (z : ℤ) → operand_at (items files) values o ≡ Ok (number w z) → enumerator_value files outcomes file en ≡ z
    number_value file en None at there w z e = cc
    number_value file en (Some m) at there w z e =
        let level = level_is (wanted_of (slice_get (items files) m)) (out-Const (values m)) w z e in
        let is = outcome_is m (values m) (given m (there m refl)) in
        ap (λ o. whole (or_zero (value_of_item outcomes o))) at ∙ ap (λ o. whole (or_zero (value_of o))) is ∙ whole_is (values m) z level

    named_value : (k : ℕ) (e : Expr) → x.value ≡ written e → named_enum files x e ≡ Some k → (w : Width) (z : ℤ) → evaluated (meaning files values x) e ≡ Ok (number w z) → IsEnumerated files outcomes k z
    named_value k (name offset d) is q w z e =
        let t = enum_is (target files x d) k q in
        let of_enum = target-tells files t.0 k t.1 x d t.2 in
        let at : number_of files (target files x d) ≡ number_at (items files) t.0 (place_of t.1) = ap (number_of files) t.2 in
        let has : Contains (names_in x.value) d = subst (λ v. Contains (names_in v) d) (sym is) (0, omega arith, refl) in
        let there : (m : ℕ) → number_at (items files) t.0 (place_of t.1) ≡ Some m → Contains (depends_on files x) m =
        λ m r. Contains-append_left _ (number_before files x x.value) m (kept (λ c. number_of files (target files x c)) (names_in x.value) has.0 d m has.1 has.2 (at ∙ r)) in
        (t.0, t.1, of_enum, number_value t.0 t.1 (number_at (items files) t.0 (place_of t.1)) refl there w z (ap (operand_at (items files) values) (sym at) ∙ e))
    named_value k (literal offset t) is q w z e = cc
    named_value k (group offset a) is q w z e = cc
    named_value k (unary offset op a) is q w z e = cc
    named_value k (binary offset op a b) is q w z e = cc

    written_value : (k : ℕ) → x.wanted ≡ wanted.Enum k → (v : Written) → x.value ≡ v → (c : Const) → judgement_of files values x v ≡ Ok c → (z : ℤ) × (c ≡ value.Number z) × IsEnumerated files outcomes k z
    written_value k wants (written e) is c q =
        let step = bound (evaluated (meaning files values x) e) (fitted x.wanted (named_enum files x e)) c q in
        let fit = enum_fit k (named_enum files x e) step.0 c (ap (λ w. fitted w (named_enum files x e) step.0) (sym wants) ∙ step.2) in
        (fit.1, fit.4, named_value k e is fit.3 fit.0 fit.1 (step.1 ∙ ap Ok fit.2))
    written_value k wants first is c q =
        let fit = enum_fit k None (number Narrow (pos 0)) c (ap (λ w. fitted w None (number Narrow (pos 0))) (sym wants) ∙ q) in none_named k None refl fit.3
    written_value k wants (after place) is c q = by (number_at (items files) x.file place) q where
      by : (o : Option ℕ) → one_more x.wanted values o ≡ Ok c → (z : ℤ) × (c ≡ value.Number z) × IsEnumerated files outcomes k z
      by None g = cc
      by (Some m) g = let fit = enum_fit k None (number Wide (number_in (out-Const (values m)) +ℤ pos 1)) c (ap (λ w. fitted w None (number Wide (number_in (out-Const (values m)) +ℤ pos 1))) (sym wants) ∙ g) in none_named k None refl fit.3

  given_is : (r : Result Const ConstFault) (c : Const) → outcome_of r ≡ Given c → r ≡ Ok c
  given_is (Ok d) c e = cc
  given_is (Err fault) c e = cc

  judged_value : (n k : ℕ) (x y : Item) (values : Values) → slice_get (items files) n ≡ Some x → slice_get (items files) n ≡ Some y → y.wanted ≡ wanted.Enum k
      → ((m : ℕ) → Contains (next files n) m → HasOutcome files m (Given (values m))) → (c : Const) → outcome_of (judgement_of files values x x.value) ≡ Given c
      → (z : ℤ) × (c ≡ value.Number z) × IsEnumerated files outcomes k z
  judged_value n k x y values e h wants all c q =
      let same : x ≡ y = cc in
      let next_is : next files n ≡ depends_on files x = ap (next_of files) e in
      let want : x.wanted ≡ wanted.Enum k = ap (λ (z : Item). z.wanted) same ∙ wants in
      written_value x values (λ m there. all m (subst (λ ms. Contains ms m) (sym next_is) there)) k want x.value refl c (given_is (judgement_of files values x x.value) c q)

  -- the value of an item of which an enum is wanted
  pub enum-value : (n k : ℕ) (o : Outcome) → HasOutcome files n o → (y : Item) → slice_get (items files) n ≡ Some y → y.wanted ≡ wanted.Enum k → (c : Const) → o ≡ Given c
      → (z : ℤ) × (c ≡ value.Number z) × IsEnumerated files outcomes k z
  enum-value n k o (unformed _ x e u) y at wants c q = absurd cc
  enum-value n k o (unknown _ x e u l) y at wants c q = absurd cc
  enum-value n k o (cyclic _ x e u l i) y at wants c q = absurd cc
  enum-value n k o (behind _ x e u l i m p there has lacks) y at wants c q = absurd cc
  enum-value n k o (judged _ x e u l i values all) y at wants c q = judged_value n k x y values e at wants all c q
