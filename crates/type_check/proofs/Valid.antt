-- Why the schema of a tree that breaks no rule is valid.
use Rattle.std.proofs.Common.{IsTrue, ◌≡◌, ◌<◌, ◌++◌, ℕ, List, [], length, sym, ap, ◌∙◌, subst}
use Rattle.std.proofs.lemmas.List.{length-map}
use Rattle.aidl_base.specs.declared.breach.Breach.{Breach}
use Rattle.aidl_names.specs.Breaches.{in_order}
use Rattle.declared_names.specs.Declarations.{declarations}
use Rattle.aidl_syntax.specs.Sources.{Source}
use Rattle.aidl_schema.specs.declared.schema.Decl.{Decl}
use Rattle.aidl_schema.specs.Valid.{IsValid, is_bounded}
use Rattle.const_eval.specs.declared.outcome.Outcome.{Outcome}
use Rattle.const_eval.specs.Outcomes.{AreOutcomes, outcome_at}
use Rattle.schema_bounds.specs.declared.bound.Bound.TheVariants.{Within}
use Rattle.schema_bounds.specs.Bounds.{bound}
use Rattle.tree_schema.specs.Checked.{IsChecked}
use Rattle.tree_schema.specs.Numbers.{sorted}
use Rattle.tree_schema.specs.SchemaOf.{declared, schema_of}
use Rattle.tree_schema.specs.Values.{Outcomes}
use Rattle.type_rules.specs.Breaches.{unsorted}
use Rattle.type_rules.specs.Unbroken.{AreUnbroken}
use Rattle.type_check.specs.Bounds.{HoldsItself, DefaultTooLarge}
use Rattle.type_check.specs.Stages.{constants_broken, schema_by, types_broken}
use Rattle.type_check.proofs.Within.{all-within}

-- the declarations of a schema stand for those of the trees, one for one
pub as-many : (files : List Source) (outcomes : Outcomes) → length (schema_of files outcomes) ≡ length (sorted (declarations files))
as-many files outcomes = length-map (sorted (declarations files)) (declared files outcomes)

-- The laws of the crates below, put together.
pub valid-by : (files : List Source) (outcomes : List Outcome) (decls : List Decl) → AreOutcomes files outcomes → constants_broken files outcomes ≡ [] → types_broken files decls ≡ [] → decls ≡ schema_by files outcomes
    → ((more : List Breach) → in_order (unsorted files ++ more) ≡ [] → more ≡ [])
    → ((more : List Breach) → in_order (unsorted files ++ more) ≡ [] → AreUnbroken files)
    → (((n : ℕ) → n < length decls → bound decls n ≡ Within) → (n : ℕ) → n < length decls → IsTrue (is_bounded decls n))
    → ((os : Outcomes) → IsChecked files os → IsValid (schema_of files os))
    → IsValid decls
unfolding constants_broken schema_by types_broken
valid-by files outcomes decls are constants types e further unbroken within valid =
    let more = HoldsItself files decls ++ DefaultTooLarge files decls in
    let same : length decls ≡ length (sorted (declarations files)) = ap length e ∙ as-many files (outcome_at outcomes) in
    let bounded = within (all-within files decls (further more types) same) in
    let checked : IsChecked files (outcome_at outcomes) = record {
      judged = are.each;
      constants = constants;
      types = unbroken more types;
      bounds = subst (λ (S : List Decl). (n : ℕ) → n < length S → IsTrue (is_bounded S n)) e bounded;
    } in
    subst IsValid (sym e) (valid (outcome_at outcomes) checked)
