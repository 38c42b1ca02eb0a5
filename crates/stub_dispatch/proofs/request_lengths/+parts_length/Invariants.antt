use Rattle.std.proofs.Common.{length}
use Rattle.stub_dispatch.proofs.request_lengths.+parts_length.Given as goal

abbrev pub decreases-parts_length : goal.decreases-parts_length
decreases-parts_length l = length l.args.now.args
