use Rattle.std.proofs.Common.{arith}
use Rattle.api_dump.proofs.Placing.{next_file}
use Rattle.api_dump.proofs.dumping.texts.Goals as goal

pub loop-i-preserved : goal.loop-i-preserved
loop-i-preserved c =
    next_file c.args.decls.now c.loop-i.i c.index-decls-i.result _ _ _ (omega arith) c.index-decls-i.is c.in_ok-add_file.ensures c.loop-i.invariant
