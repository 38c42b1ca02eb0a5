-- The schema of files is valid, whatever found it.
use Rattle.std.proofs.Common.{◌≡◌, ◌++◌, All, List, [], map, sym, subst}
use Rattle.std.specs.List.Sorted.{IsStrictlyIncreasing}
use Rattle.std.proofs.lemmas.List.Elements.{All-map}
use Rattle.aidl_base.specs.declared.source_file.SourceFile.{SourceFile}
use Rattle.aidl_syntax.specs.declared.token.Token.{Token}
use Rattle.aidl_syntax.specs.declared.tree.ParsedFile.{ParsedFile}
use Rattle.aidl_syntax.specs.Parses.{Holds}
use Rattle.aidl_syntax.specs.Walks.{literals_of, places_of}
use Rattle.aidl_names.specs.Refusals.{IsAccepted}
use Rattle.aidl_syntax.specs.Sources.{AreOfBytes, Source, source_of}
use Rattle.aidl_schema.specs.declared.schema.Decl.{Decl}
use Rattle.aidl_schema.specs.Valid.{IsValid}
use Rattle.schema_bounds.proofs.lemmas.Chains.{all_within}
use Rattle.tree_files.proofs.lemmas.OfBytes.{of-bytes}
use Rattle.tree_schema.specs.Checked.{IsChecked}
use Rattle.tree_schema.specs.Named.{HasIdentifiers}
use Rattle.tree_schema.specs.SchemaOf.{schema_of}
use Rattle.tree_schema.specs.Values.{Outcomes}
use Rattle.tree_schema.proofs.lemmas.valued.EnumsFilled.{files-filled}
use Rattle.tree_schema.proofs.lemmas.settled.Faultless.{faultless, filled-files}
use Rattle.tree_schema.proofs.lemmas.named.Limits.{limits-hold}
use Rattle.tree_schema.proofs.lemmas.named.Members.{members-hold}
use Rattle.tree_schema.proofs.lemmas.named.Schema.{names-hold}
use Rattle.tree_schema.proofs.lemmas.valued.Checked.{checked-types, checked-methods, checked-bounds, checked-constants, checked-initializers, checked-enums}
use Rattle.tree_schema.proofs.lemmas.settled.Laws.{placed-files, plain-files}
use Rattle.tree_schema.proofs.lemmas.walked.Files.{named-files}
use Rattle.type_rules.specs.Breaches.{unsorted}
use Rattle.type_rules.proofs.lemmas.Nothing.{back_nil, front_nil, none_in_order, unbroken}
use Rattle.type_check.specs.Checked.{IsSchemaOf}
use Rattle.type_check.specs.Stages.{types_broken}
use Rattle.type_check.proofs.Valid.{valid-by}
use Rattle.aidl_syntax.proofs.lemmas.Leaves as leaves

abbrev ArePlaced : Source → Type 0
ArePlaced s = IsStrictlyIncreasing (places_of s.tree)

abbrev AreHeld : Source → Type 0
AreHeld s = All (λ (t : Token). Holds t.kind) (literals_of s.tree)

module _ (trees : List ParsedFile) (of : AreOfBytes trees) where
  identifiers : All HasIdentifiers (map source_of trees)
  identifiers = All-map HasIdentifiers source_of trees (λ k f lt. let is = of.each k f lt in leaves.names is.0 is.1 _ is.3 is.4)

  places : All ArePlaced (map source_of trees)
  places = All-map ArePlaced source_of trees (λ k f lt. let is = of.each k f lt in leaves.ascend is.0 is.1 _ is.3 is.4)

  literals : All AreHeld (map source_of trees)
  literals = All-map AreHeld source_of trees (λ k f lt. let is = of.each k f lt in leaves.literals is.0 is.1 _ is.3 is.4)

  valid_by_trees : IsAccepted (map source_of trees) → (outcomes : Outcomes) → IsChecked (map source_of trees) outcomes → IsValid (schema_of (map source_of trees) outcomes)
  valid_by_trees accepted outcomes checked =
      let files = map source_of trees in
      let named = named-files files identifiers in
      let plain = plain-files files literals in
      let once = placed-files files places in
      let none = faultless files outcomes checked.constants in
      let filled = files-filled files (filled-files trees of) in
      record {
        names = names-hold files outcomes named accepted.1;
        members = members-hold files outcomes named accepted.1;
        types = checked-types files outcomes named accepted checked.types;
        methods = checked-methods files outcomes named accepted checked.types;
        constants = checked-constants files outcomes named accepted checked.types checked.judged none plain once;
        initializers = checked-initializers files outcomes named accepted checked.types checked.judged none plain once;
        enums = checked-enums files outcomes named accepted checked.types checked.judged none plain once filled;
        bounds = checked-bounds files outcomes named accepted checked.types checked.bounds;
        limits = limits-hold files outcomes named accepted.0;
      }

pub schema_valid : (files : List SourceFile) (S : List Decl) → IsSchemaOf files S → IsValid S
schema_valid files S (trees, parsed, is) =
    let sources = map source_of trees in
    let found = unsorted sources in
    valid-by sources is.outcomes S is.judged is.constants (subst (λ (decls : List Decl). types_broken sources decls ≡ []) (sym is.exact) is.types) is.exact
    (λ more e. back_nil found more (none_in_order (found ++ more) e))
    (λ more e. unbroken sources (front_nil found more (none_in_order (found ++ more) e)))
    (all_within S)
    (λ outcomes checked. valid_by_trees trees (of-bytes files trees parsed) is.names outcomes checked)
