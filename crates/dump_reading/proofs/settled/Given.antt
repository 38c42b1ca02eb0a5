-- Each item of the trees that a dump stands for has a value.
use Rattle.std.proofs.Common.{◌≡◌, ℕ, zero, suc, ◌+◌, ◌<◌, true, List, [], ◌∷◌, map, length, Some, None, slice_get, inl, inr, refl, ap, subst, ◌∙◌, arith}
use Rattle.std.specs.List.{cons_option}
use Rattle.std.specs.List.Sorted.{IsStrictlySortedBy}
use Rattle.std.specs.Cmp.Lexicographic.{slice_cmp}
use Rattle.std.specs.Ordering.{nat_cmp}
use Rattle.aidl_base.specs.declared.constant.Const.{Const}
use Rattle.aidl_base.specs.declared.constant.Const.TheVariants as constant
use Rattle.aidl_syntax.specs.Sources.{Source}
use Rattle.declared_names.specs.Declarations.{declarations}
use Rattle.const_eval.specs.declared.outcome.Outcome.{Outcome}
use Rattle.const_eval.specs.declared.outcome.Outcome.TheVariants.{Given, Fault, Unjudged}
use Rattle.const_eval.specs.Breaches.{breach_by, breaches_from, breaches}
use Rattle.const_items.specs.Items.{Item, items}
use Rattle.const_eval.specs.Outcomes.{HasOutcome, is_given}
use Rattle.aidl_schema.specs.declared.schema.Decl.{Decl}
use Rattle.aidl_schema.specs.Holds.{AllHold, AreApart}
use Rattle.aidl_schema.specs.Names.{name_of}
use Rattle.aidl_schema.specs.Valid.{is_enum}
use Rattle.tree_schema.proofs.lemmas.walked.Placed.{Each, each-at}
use Rattle.tree_schema.proofs.lemmas.settled.Items.{each-declared, each-item}
use Rattle.tree_schema.proofs.lemmas.settled.Places.{HasPlacesOnce}
use Rattle.dump_reading.proofs.filed.Numbers.{walks}
use Rattle.dump_reading.proofs.named.Entries.{AreEntries}
use Rattle.dump_reading.proofs.settled.Outcomes.{plain_outcome, naming_outcome, given_by}
use Rattle.dump_reading.proofs.settled.Members.{IsGood, entry_good}

pub there : {X : Type 0} (xs : List X) (n : ℕ) → n < length xs → (x : X) × (slice_get xs n ≡ Some x)
there [] n lt = absurd (omega arith)
there (x ∷ xs) zero lt = (x, refl)
there (x ∷ xs) (suc n) lt = there xs n (omega arith)

no_breach : (x : Item) (o : Outcome) → is_given o ≡ true → breach_by x o ≡ None
no_breach x (Given c) h = refl
no_breach x (Fault f) h = cc
no_breach x Unjudged h = cc

none_from : (outcomes : ℕ → Outcome) (i : ℕ) (xs : List Item) → ((k : ℕ) → k < length xs → is_given (outcomes (i + k)) ≡ true) → breaches_from outcomes i xs ≡ []
none_from outcomes i [] h = refl
none_from outcomes i (x ∷ xs) h =
    let here : is_given (outcomes i) ≡ true = subst (λ (j : ℕ). is_given (outcomes j) ≡ true) (omega arith) (h zero (omega arith)) in
    ap (λ b. cons_option b (breaches_from outcomes (i + 1) xs)) (no_breach x (outcomes i) here)
    ∙ none_from outcomes (i + 1) xs (λ k lt. subst (λ (j : ℕ). is_given (outcomes j) ≡ true) (omega arith) (h (suc k) (omega arith)))

module _ (S : List Decl) (H : AllHold S) (sorted : IsStrictlySortedBy (slice_cmp nat_cmp) (map name_of S)) (A : AreApart name_of S) (enums : (n : ℕ) (d : Decl) → slice_get S n ≡ Some d → is_enum d.kind ≡ true → d.constants ≡ [])
    (files : List Source) (are : AreEntries S files (walks S) (declarations files)) (once : Each HasPlacesOnce files) where
  all_good : Each (IsGood files) (items files)
  all_good = each-item (IsGood files) files (each-declared (IsGood files) files (λ j e at. let r = are.each j e at in entry_good S H sorted A files are once enums r.0 j e r.2))

  pub all_given : (n : ℕ) (o : Outcome) → n < length (items files) → HasOutcome files n o → is_given o ≡ true
  all_given n o lt h = let x = there (items files) n lt in by x.0 x.1 (each-at (IsGood files) (items files) all_good n x.0 x.1) where
    by : (x : Item) → slice_get (items files) n ≡ Some x → IsGood files x → is_given o ≡ true
    by x at (l, inl p) = let r = plain_outcome files n x at p.0 in given_by files n o r.0 h r.1
    by x at (l, inr p) = given_by files n o (constant.Number p.0.numbered.number) h (naming_outcome files n x at p.0)

  pub some_outcome : (n : ℕ) → n < length (items files) → (c : Const) × HasOutcome files n (Given c)
  some_outcome n lt = let x = there (items files) n lt in by x.0 x.1 (each-at (IsGood files) (items files) all_good n x.0 x.1) where
    by : (x : Item) → slice_get (items files) n ≡ Some x → IsGood files x → (c : Const) × HasOutcome files n (Given c)
    by x at (l, inl p) = let r = plain_outcome files n x at p.0 in (r.0, r.1)
    by x at (l, inr p) = (constant.Number p.0.numbered.number, naming_outcome files n x at p.0)

  pub none_broken : (outcomes : ℕ → Outcome) → ((n : ℕ) → n < length (items files) → HasOutcome files n (outcomes n)) → breaches outcomes (items files) ≡ []
  none_broken outcomes h = none_from outcomes 0 (items files) (λ k lt. subst (λ (j : ℕ). is_given (outcomes j) ≡ true) (omega arith) (all_given k (outcomes k) lt (h k lt)))
