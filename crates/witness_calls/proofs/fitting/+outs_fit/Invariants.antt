use Rattle.std.proofs.Common.{length}
use Rattle.witness_calls.proofs.fitting.+outs_fit.Given as goal

abbrev pub decreases-outs_fit : goal.decreases-outs_fit
decreases-outs_fit l = length l.args.now
