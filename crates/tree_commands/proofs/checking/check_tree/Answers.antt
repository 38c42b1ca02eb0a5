use Rattle.std.proofs.Common.{List, subst}
use Rattle.aidl_base.specs.declared.source_file.SourceFile.{SourceFile}
use Rattle.type_check.specs.Checked.{IsSchemaOf}
use Rattle.tree_commands.specs.Faults.{IsFaultAnswer}
use Rattle.tree_commands.specs.Results.{EndsBy}
use Rattle.tree_commands.proofs.checking.check_tree.Goals as goal

pub returns-in-Ok-clause-ok : goal.returns-in-Ok-clause-ok
returns-in-Ok-clause-ok c = subst (λ (fs : List SourceFile). IsSchemaOf fs c.in-Ok.schema.decls) c.as_slice-sources.ensures c.in-Ok.ensures.ok

pub returns-clause-err : goal.returns-clause-err
returns-clause-err c = subst (λ (fs : List SourceFile). EndsBy (IsFaultAnswer c.args.root.now fs) c.fault_answer.result) c.as_slice-sources.ensures c.fault_answer.ensures
