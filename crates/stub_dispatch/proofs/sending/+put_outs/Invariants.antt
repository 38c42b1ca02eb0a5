use Rattle.std.proofs.Common.{length}
use Rattle.stub_dispatch.proofs.sending.+put_outs.Given as goal

abbrev pub decreases-put_outs : goal.decreases-put_outs
decreases-put_outs l = length l.args.now.args
