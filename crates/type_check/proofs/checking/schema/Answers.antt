use Rattle.std.proofs.Common.{IsTrue, ◌≡◌, ◌<◌, ◌++◌, ℕ, List, [], length, map, ap, ◌∙◌, subst}
use Rattle.aidl_base.specs.declared.breach.Breach.{Breach}
use Rattle.aidl_names.specs.Breaches.{in_order}
use Rattle.aidl_syntax.specs.Sources.{source_of}
use Rattle.aidl_schema.specs.declared.schema.Decl.{Decl}
use Rattle.aidl_schema.specs.Valid.{is_bounded}
use Rattle.aidl_syntax.specs.declared.tree.ParsedFile.{ParsedFile}
use Rattle.schema_bounds.specs.declared.bound.Bound.TheVariants.{Within}
use Rattle.schema_bounds.specs.Bounds.{bound}
use Rattle.type_rules.specs.Breaches.{unsorted}
use Rattle.type_rules.specs.Unbroken.{AreUnbroken}
use Rattle.type_check.specs.Stages.{types_broken}
use Rattle.type_check.proofs.Valid.{valid-by}
use Rattle.type_check.proofs.checking.schema.Goals as goal

-- the declarations are valid, since nothing is broken
pub invariant_of-result : goal.invariant_of-result
invariant_of-result c =
    let same = c.files.ensures.files in
    let further = subst (λ (fs : List ParsedFile). (more : List Breach) → in_order (unsorted (map source_of fs) ++ more) ≡ [] → more ≡ []) same c.law_unbroken.ensures.further in
    let unbroken = subst (λ (fs : List ParsedFile). (more : List Breach) → in_order (unsorted (map source_of fs) ++ more) ≡ [] → AreUnbroken (map source_of fs)) same c.law_unbroken.ensures.declarations in
    let within = subst (λ (S : List Decl). ((n : ℕ) → n < length S → bound S n ≡ Within) → (n : ℕ) → n < length S → IsTrue (is_bounded S n)) c.as_slice.ensures c.law_within.ensures in
    let of = c.requires in
    let types = ap (types_broken (map source_of c.args.names.now)) of.exact ∙ of.types in
    record {
      valid = valid-by (map source_of c.args.names.now) of.outcomes c.args.decls of.judged of.constants types of.exact further unbroken within c.law_valid.ensures;
    }
