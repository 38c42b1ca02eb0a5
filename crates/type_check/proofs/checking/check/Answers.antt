use Rattle.std.proofs.Common.{List, map, sym, subst}
use Rattle.aidl_syntax.specs.Sources.{source_of}
use Rattle.aidl_schema.specs.declared.schema.Schema.{Schema}
use Rattle.aidl_syntax.specs.declared.tree.ParsedFile.{ParsedFile}
use Rattle.tree_files.specs.Parsed.{AreParsed}
use Rattle.type_check.specs.Checked.{IsSchemaOf, IsSchemaOfTrees}
use Rattle.type_check.specs.Refusals.{IsRefusal, IsRefusalOfTrees}
use Rattle.type_check.proofs.TreesRefused.{trees-refused}
use Rattle.type_check.proofs.Results.{ok-more, err-more}
use Rattle.type_check.proofs.checking.check.Goals as goal

pub returns-in-Ok-clause-ok : goal.returns-in-Ok-clause-ok
returns-in-Ok-clause-ok c =
    let trees = c.as_slice.result.now in
    let are = subst (λ (ps : List ParsedFile). AreParsed c.args.files.now ps) (sym c.as_slice.ensures) c.in-Ok.ensures.ok in
    ok-more (λ (s : Schema). IsSchemaOfTrees (map source_of trees) s.decls) (λ (s : Schema). IsSchemaOf c.args.files.now s.decls) c.of_trees.result
    (λ s h. (trees, are, h)) c.of_trees.ensures.ok

pub returns-in-Ok-clause-err : goal.returns-in-Ok-clause-err
returns-in-Ok-clause-err c =
    let trees = c.as_slice.result.now in
    let are = subst (λ (ps : List ParsedFile). AreParsed c.args.files.now ps) (sym c.as_slice.ensures) c.in-Ok.ensures.ok in
    err-more (IsRefusalOfTrees (map source_of trees)) (IsRefusal c.args.files.now) c.of_trees.result (λ e h. trees-refused c.args.files.now e (trees, are, h)) c.of_trees.ensures.err

pub returns-in-Err-clause-err : goal.returns-in-Err-clause-err
returns-in-Err-clause-err c = c.of_files.ensures c.args.files.now c.in-Err.ensures.err
