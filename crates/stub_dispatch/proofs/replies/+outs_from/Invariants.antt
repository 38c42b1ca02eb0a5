use Rattle.std.proofs.Common.{length}
use Rattle.stub_dispatch.proofs.replies.+outs_from.Given as goal

abbrev pub decreases-outs_from : goal.decreases-outs_from
decreases-outs_from l = length l.args.now.args
