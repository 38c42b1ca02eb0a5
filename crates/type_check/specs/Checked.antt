-- *SchemaOf*: the schema of files that pass no limit and break no rule (own).
use Rattle.std.specs.Prelude.{◌≡◌, List, [], map}
use Rattle.aidl_base.specs.declared.source_file.SourceFile.{SourceFile}
use Rattle.aidl_names.specs.Refusals.{IsAccepted}
use Rattle.aidl_syntax.specs.Sources.{Source, source_of}
use Rattle.aidl_schema.specs.declared.schema.Decl.{Decl}
use Rattle.aidl_syntax.specs.declared.tree.ParsedFile.{ParsedFile}
use Rattle.const_eval.specs.declared.outcome.Outcome.{Outcome}
use Rattle.const_eval.specs.Outcomes.{AreOutcomes}
use Rattle.tree_files.specs.Parsed.{AreParsed}
use Rattle.type_check.specs.Stages.{constants_broken, schema_by, types_broken}

-- The trees pass no limit on declarations, no stage has a breach, and these are the declarations of their schema.
pub record IsSchemaOfTrees (files : List Source) (decls : List Decl) : Type 0 where
  pub names : IsAccepted files
  pub outcomes : List Outcome
  pub judged : AreOutcomes files outcomes
  pub constants : constants_broken files outcomes ≡ []
  pub types : types_broken files (schema_by files outcomes) ≡ []
  pub exact : decls ≡ schema_by files outcomes

-- the files are parsed, and these are the declarations of the schema of their trees
abbrev pub IsSchemaOf : List SourceFile → List Decl → Type 0
IsSchemaOf files decls = (trees : List ParsedFile) × AreParsed files trees × IsSchemaOfTrees (map source_of trees) decls
