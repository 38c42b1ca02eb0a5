use Rattle.std.proofs.Common.{◌≡◌, true, List, map, All, subst}
use Rattle.aidl_syntax.specs.declared.tree.ParsedFile.{ParsedFile}
use Rattle.aidl_syntax.specs.Sources.{source_of}
use Rattle.tree_schema.specs.Named.{HasIdentifiers}
use Rattle.tree_schema.proofs.walked.Outers.{are_named}
use Rattle.tree_schema.proofs.lemmas.walked.Files.{named-files}
use Rattle.tree_schema.proofs.lemmas.named.Schema.{names-hold}
use Rattle.tree_schema.proofs.lemmas.named.Members.{members-hold}
use Rattle.tree_schema.proofs.lemmas.named.Limits.{limits-hold}
use Rattle.tree_schema.proofs.laws.law_named.Goals as goal

named : (files same : List ParsedFile) → same ≡ files → All HasIdentifiers (map source_of same) → are_named (map source_of files) ≡ true
named files same e all = named-files (map source_of files) (subst (λ (fs : List ParsedFile). All HasIdentifiers (map source_of fs)) e all)

pub returns-clause-names : goal.returns-clause-names
returns-clause-names c outcomes =
    names-hold (map source_of c.args.names.now) outcomes (named c.args.names.now c.files.result.now c.files.ensures.files c.law_trees.ensures.names) c.files.ensures.accepted.1

pub returns-clause-members : goal.returns-clause-members
returns-clause-members c outcomes =
    members-hold (map source_of c.args.names.now) outcomes (named c.args.names.now c.files.result.now c.files.ensures.files c.law_trees.ensures.names) c.files.ensures.accepted.1

pub returns-clause-limits : goal.returns-clause-limits
returns-clause-limits c outcomes =
    limits-hold (map source_of c.args.names.now) outcomes (named c.args.names.now c.files.result.now c.files.ensures.files c.law_trees.ensures.names) c.files.ensures.accepted.0
