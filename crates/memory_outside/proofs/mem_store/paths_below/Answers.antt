use Rattle.std.proofs.Common.{◌∙◌}
use Rattle.memory_outside.proofs.Below.{one_more}
use Rattle.memory_outside.proofs.mem_store.paths_below.Goals as goal

pub loop-file-preserved : goal.loop-file-preserved
loop-file-preserved c =
    one_more c.args.root.now c.args.files.now c.loop-file.file-index c.file-item.result c.loop-file-test.true c.file-item.is _ _ c.in_ok-push_below.ensures ∙ c.loop-file.invariant
