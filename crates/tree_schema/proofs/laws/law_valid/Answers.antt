use Rattle.std.proofs.Common.{◌≡◌, List, map, All, subst}
use Rattle.aidl_syntax.specs.declared.tree.ParsedFile.{ParsedFile}
use Rattle.aidl_syntax.specs.Sources.{Source, source_of}
use Rattle.tree_schema.specs.Named.{HasIdentifiers}
use Rattle.tree_schema.proofs.lemmas.valued.EnumsFilled.{files-filled}
use Rattle.tree_schema.proofs.lemmas.settled.Faultless.{faultless, filled-files}
use Rattle.tree_schema.proofs.lemmas.valued.Checked.{checked-types, checked-methods, checked-bounds, checked-constants, checked-initializers, checked-enums}
use Rattle.tree_schema.proofs.lemmas.settled.Laws.{placed-files, plain-files}
use Rattle.tree_schema.proofs.lemmas.walked.Files.{named-files}
use Rattle.tree_schema.proofs.Trees.{AreHeld, ArePlaced}
use Rattle.tree_schema.proofs.laws.law_valid.Goals as goal

of_same : (P : Source → Type 0) (same files : List ParsedFile) → same ≡ files → All P (map source_of same) → All P (map source_of files)
of_same P same files e all = subst (λ (fs : List ParsedFile). All P (map source_of fs)) e all

pub returns : goal.returns
returns c outcomes checked =
    let files = map source_of c.args.names.now in
    let same = c.files.ensures.files in
    let accepted = c.files.ensures.accepted in
    let identifiers = named-files files (of_same HasIdentifiers c.files.result.now c.args.names.now same c.law_trees.ensures.names) in
    let plain = plain-files files (of_same AreHeld c.files.result.now c.args.names.now same c.law_trees.ensures.literals) in
    let once = placed-files files (of_same ArePlaced c.files.result.now c.args.names.now same c.law_trees.ensures.places) in
    let none = faultless files outcomes checked.constants in
    let filled = files-filled files (filled-files c.args.names.now c.files.ensures.of_bytes) in
    record {
      names = c.law_named.ensures.names outcomes;
      members = c.law_named.ensures.members outcomes;
      types = checked-types files outcomes identifiers accepted checked.types;
      methods = checked-methods files outcomes identifiers accepted checked.types;
      constants = checked-constants files outcomes identifiers accepted checked.types checked.judged none plain once;
      initializers = checked-initializers files outcomes identifiers accepted checked.types checked.judged none plain once;
      enums = checked-enums files outcomes identifiers accepted checked.types checked.judged none plain once filled;
      bounds = checked-bounds files outcomes identifiers accepted checked.types checked.bounds;
      limits = c.law_named.ensures.limits outcomes;
    }
