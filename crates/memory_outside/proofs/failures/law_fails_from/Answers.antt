use Rattle.std.proofs.Common.{arith}
use Rattle.memory_outside.proofs.Numbers.{fails_from}
use Rattle.memory_outside.proofs.failures.law_fails_from.Goals as goal

pub returns : goal.returns
returns c count = fails_from c.args.first (omega arith) count
