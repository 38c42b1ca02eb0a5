use Rattle.memory_outside.proofs.Numbers.{fails_by_number}
use Rattle.memory_outside.proofs.failures.law_fails_by_number.Goals as goal

pub returns : goal.returns
returns c = fails_by_number c.args.failing.now
