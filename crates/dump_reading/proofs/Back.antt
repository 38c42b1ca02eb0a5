-- The files of a dump have the schema that was dumped, and no refusal but for a limit.
use Rattle.std.proofs.Common.{◌≡◌, ℕ, zero, suc, ◌+◌, ◌<◌, Bool, true, false, not, nat_eq, if◌then◌else◌, List, [], ◌∷◌, ◌++◌, map, length, Some, slice_get, inl, inr, refl, sym, ap, ◌∙◌, subst, arith}
use Rattle.std.specs.List.{All}
use Rattle.std.specs.List.Sorted.{IsStrictlySortedBy, IsStrictlyIncreasing}
use Rattle.std.specs.Cmp.Lexicographic.{slice_cmp}
use Rattle.std.specs.Ordering.{nat_cmp}
use Rattle.std.proofs.lemmas.Bool.{and_parts}
use Rattle.std.proofs.lemmas.List.{length-map}
use Rattle.std.proofs.lemmas.Option.{slice_get_within}
use Rattle.std.proofs.lemmas.List.Elements.{All-head, All-tail}
use Rattle.aidl_base.specs.declared.source_file.SourceFile.{SourceFile}
use Rattle.aidl_base.proofs.lemmas.Tests.{flipped}
use Rattle.aidl_syntax.specs.Sources.{Source}
use Rattle.aidl_syntax.specs.Members.{declared_name}
use Rattle.aidl_syntax.specs.Walks.{places_of}
use Rattle.aidl_names.specs.Rules.{breach}
use Rattle.aidl_lexer.proofs.lemmas.meaning.OneLexing.{never_both}
use Rattle.declared_names.specs.Declarations.{declarations}
use Rattle.aidl_names.specs.Breaches.{in_order}
use Rattle.aidl_names.specs.Refusals.{IsAccepted}
use Rattle.const_eval.specs.declared.outcome.Outcome.{Outcome}
use Rattle.const_eval.specs.declared.outcome.Outcome.TheVariants.{Given}
use Rattle.const_items.specs.Items.{items}
use Rattle.const_eval.specs.Outcomes.{HasOutcome, AreOutcomes, outcome_at}
use Rattle.tree_schema.specs.Numbers.{sorted}
use Rattle.tree_schema.specs.SchemaOf.{schema_of, declared}
use Rattle.tree_schema.proofs.lemmas.settled.Laws.{placed-files}
use Rattle.schema_bounds.specs.declared.bound.Bound.TheVariants.{Within}
use Rattle.schema_bounds.specs.Bounds.{bound, bound_by, reaches_cycle}
use Rattle.tree_files.specs.declared.fault.LexBreach.{LexBreach}
use Rattle.tree_files.specs.Files.{HasTokens, HasTree}
use Rattle.tree_files.specs.Refusals.{Rows, IsLexBreach, IsTreeless}
use Rattle.type_check.specs.Bounds.{broken, broken_at, rule_of}
use Rattle.type_check.specs.Checked.{IsSchemaOfTrees}
use Rattle.type_check.specs.Stages.{constants_broken, schema_by, types_broken}
use Rattle.aidl_schema.specs.declared.schema.Decl.{Decl}
use Rattle.aidl_schema.specs.Containment.{holds_itself}
use Rattle.aidl_schema.specs.Holds.{AllHold, AreApart}
use Rattle.aidl_schema.specs.Names.{name_of, has_names}
use Rattle.aidl_schema.specs.Sizes.{has_small_default}
use Rattle.aidl_schema.specs.Valid.{is_enum, has_bounds, is_bounded, one_of}
use Rattle.dump_reading.proofs.filed.Numbers.{walks}
use Rattle.dump_reading.proofs.named.Entries.{AreEntries}
use Rattle.dump_reading.proofs.named.Stand.{each_none}
use Rattle.dump_reading.proofs.settled.Given.{some_outcome, none_broken}
use Rattle.dump_reading.proofs.ruled.Rules.{none_found}
use Rattle.dump_reading.proofs.drafted.Schema.{schema_back, bounds_back}

-- A list of outcomes.
outcomes_from : (files : List Source) {X : Type 0} (xs : List X) (i : ℕ) → ((k : ℕ) → k < length xs → (o : Outcome) × HasOutcome files (i + k) o)
    → (os : List Outcome) × (length os ≡ length xs) × ((k : ℕ) → k < length xs → HasOutcome files (i + k) (outcome_at os k))
outcomes_from files [] i h = ([], refl, λ k lt. absurd (omega arith))
outcomes_from files (x ∷ xs) i h =
    let here = h zero (omega arith) in
    let rest = outcomes_from files xs (i + 1) (λ k lt. let r = h (suc k) (omega arith) in let on : i + suc k ≡ (i + 1) + k = omega arith in (r.0, subst (λ (j : ℕ). HasOutcome files j r.0) on r.1)) in
    (here.0 ∷ rest.0, ap suc rest.1, λ k lt. by here.0 here.1 rest.0 rest.2 k lt) where
      by : (o : Outcome) → HasOutcome files (i + zero) o → (os : List Outcome) → ((k : ℕ) → k < length xs → HasOutcome files ((i + 1) + k) (outcome_at os k)) → (k : ℕ) → k < suc (length xs) → HasOutcome files (i + k) (outcome_at (o ∷ os) k)
      by o p os q zero lt = p
      by o p os q (suc k) lt = let on : (i + 1) + k ≡ i + suc k = omega arith in subst (λ (j : ℕ). HasOutcome files j (outcome_at os k)) on (q k (omega arith))

-- what is bounded breaks neither E22 nor E23
within : (S : List Decl) (n : ℕ) → is_bounded S n ≡ true → bound S n ≡ Within
within S n h =
    let two = and_parts (not (holds_itself S n)) (has_small_default S (one_of n)) h in
    ap (λ b. bound_by b (reaches_cycle S n) (has_small_default S (one_of n))) (flipped (holds_itself S n) two.0)
    ∙ ap (λ b. bound_by false (reaches_cycle S n) b) two.1 ∙ by (reaches_cycle S n) where
      by : (r : Bool) → bound_by false r true ≡ Within
      by true = refl
      by false = refl

module _ (S : List Decl) (H : AllHold S) (in_names : IsStrictlySortedBy (slice_cmp nat_cmp) (map name_of S)) (A : AreApart name_of S) (enums : (n : ℕ) (d : Decl) → slice_get S n ≡ Some d → is_enum d.kind ≡ true → d.constants ≡ [])
    (named : has_names S ≡ true) (bounds : has_bounds S ≡ true) (files : List Source) (are : AreEntries S files (walks S) (declarations files)) (rise : All (λ s. IsStrictlyIncreasing (places_of s.tree)) files) where
  none_of_constants : (outcomes : List Outcome) → AreOutcomes files outcomes → constants_broken files outcomes ≡ []
  unfolding constants_broken
  none_of_constants outcomes h = none_broken S H in_names A enums files are (placed-files files rise) (outcome_at outcomes) h.each

  none_bound : (rule : ℕ) (T : List Decl) → ((n : ℕ) → n < length (sorted (declarations files)) → bound T n ≡ Within) → nat_eq 0 rule ≡ false → broken rule files T ≡ []
  unfolding broken
  none_bound rule T h zero_not = each_none (broken_at rule (bound T)) 0 (sorted (declarations files)) (λ k x at.
      let lt = slice_get_within (sorted (declarations files)) k x at in
      let on : 0 + k ≡ k = omega arith in
      let inside : bound T (0 + k) ≡ Within = ap (λ (n : ℕ). bound T n) on ∙ h k lt in
      ap (λ b. if nat_eq (rule_of b) rule then breach rule x.1.file (declared_name x.1.tree).offset ∷ [] else []) inside
      ∙ ap (λ b. if b then breach rule x.1.file (declared_name x.1.tree).offset ∷ [] else []) zero_not)

  none_of_types : (outcomes : List Outcome) → AreOutcomes files outcomes → types_broken files (schema_by files outcomes) ≡ []
  unfolding types_broken schema_by
  none_of_types outcomes h =
      let T = schema_of files (outcome_at outcomes) in
      let once = placed-files files rise in
      let fine : (n : ℕ) → n < length (sorted (declarations files)) → bound T n ≡ Within = λ n lt.
      let long : length T ≡ length (sorted (declarations files)) = length-map (sorted (declarations files)) (declared files (outcome_at outcomes)) in
      within T n (bounds_back S H in_names A enums named files are once (outcome_at outcomes) h.each bounds n (omega arith)) in
      ap (λ xs. in_order (xs ++ (broken 22 files T ++ broken 23 files T))) (none_found S H in_names A enums files are)
      ∙ ap (λ xs. in_order (xs ++ broken 23 files T)) (none_bound 22 T fine refl) ∙ ap in_order (none_bound 23 T fine refl)

  exact : (os : List Outcome) → AreOutcomes files os → S ≡ schema_by files os
  unfolding schema_by
  exact os judged = sym (schema_back S H in_names A enums named files are (placed-files files rise) (outcome_at os) judged.each)

  -- the schema of the trees
  pub trees_back : IsAccepted files → IsSchemaOfTrees files S
  trees_back accepted =
      let once = placed-files files rise in
      let os = outcomes_from files (items files) 0 (λ k lt. let r = some_outcome S H in_names A enums files are once k lt in (Given r.0, subst (λ (j : ℕ). HasOutcome files j (Given r.0)) (omega arith) r.1)) in
      let judged : AreOutcomes files os.0 = record { count = os.1; each = λ n lt. subst (λ (j : ℕ). HasOutcome files j (outcome_at os.0 n)) (omega arith) (os.2 n lt) } in
      record { names = accepted; outcomes = os.0; judged = judged; constants = none_of_constants os.0 judged; types = none_of_types os.0 judged; exact = exact os.0 judged }

-- Rows of files without tokens, or without trees.
pub no_rows : {R : Type 0} (G : SourceFile → Type 0) (IsRow : ℕ → SourceFile → R → Type 0) → ((n : ℕ) (f : SourceFile) (r : R) → G f → IsRow n f r → ⊥) → (n : ℕ) (fs : List SourceFile) → All G fs → (rows : List R) → Rows G IsRow n fs rows → rows ≡ []
no_rows G IsRow never n fs all [] h = refl
no_rows G IsRow never n [] all (r ∷ rows) h = absurd h
no_rows G IsRow never n (f ∷ fs) all (r ∷ rows) (inl h) = no_rows G IsRow never (n + 1) fs (All-tail G f fs all) (r ∷ rows) h.1
no_rows G IsRow never n (f ∷ fs) all (r ∷ rows) (inr h) = absurd (never n f r (All-head G f fs all) h.0)

pub never_lexical : (n : ℕ) (f : SourceFile) (b : LexBreach) → HasTokens f → IsLexBreach n f b → ⊥
never_lexical n f b h k = never_both f.bytes h.0 k.1 k.2 h.1 k.5

pub never_treeless : (n : ℕ) (f : SourceFile) (k : ℕ) → HasTree f → IsTreeless n f k → ⊥
never_treeless n f k t h = h.1 t
