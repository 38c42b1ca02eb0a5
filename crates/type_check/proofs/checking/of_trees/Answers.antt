use Rattle.std.proofs.Common.{map}
use Rattle.aidl_syntax.specs.Sources.{source_of}
use Rattle.type_check.proofs.checking.of_trees.Goals as goal

pub returns-in-Err-clause-err : goal.returns-in-Err-clause-err
returns-in-Err-clause-err c = c.of_names.ensures (map source_of c.args.trees.now) c.in-Err.ensures.err
