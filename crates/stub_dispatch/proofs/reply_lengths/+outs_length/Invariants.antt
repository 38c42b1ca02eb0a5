use Rattle.std.proofs.Common.{length}
use Rattle.stub_dispatch.proofs.reply_lengths.+outs_length.Given as goal

abbrev pub decreases-outs_length : goal.decreases-outs_length
decreases-outs_length l = length l.args.now.args
