use Rattle.aidl_syntax.specs.Trees.{file_of}
use Rattle.aidl_syntax.proofs.lemmas.Leaves as leaves
use Rattle.aidl_syntax.proofs.laws.law_tree.Goals as goal

pub returns-clause-ascend : goal.returns-clause-ascend
returns-clause-ascend c bytes (tokens, cut, file) = leaves.ascend bytes tokens (file_of c.args.tree.now) cut file

pub returns-clause-inside : goal.returns-clause-inside
returns-clause-inside c bytes (tokens, cut, file) = leaves.inside bytes tokens (file_of c.args.tree.now) cut file

pub returns-clause-names : goal.returns-clause-names
returns-clause-names c bytes (tokens, cut, file) = leaves.names bytes tokens (file_of c.args.tree.now) cut file

pub returns-clause-parts : goal.returns-clause-parts
returns-clause-parts c bytes (tokens, cut, file) = leaves.parts bytes tokens (file_of c.args.tree.now) cut file

pub returns-clause-literals : goal.returns-clause-literals
returns-clause-literals c bytes (tokens, cut, file) = leaves.literals bytes tokens (file_of c.args.tree.now) cut file
