use Rattle.std.proofs.Common.{length}
use Rattle.witness_calls.proofs.fitting.+sum_of_lengths.Given as goal

abbrev pub decreases-sum_of_lengths : goal.decreases-sum_of_lengths
decreases-sum_of_lengths l = length l.args.now
