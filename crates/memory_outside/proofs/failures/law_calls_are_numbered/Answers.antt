use Rattle.memory_outside.proofs.Numbers.{calls_count}
use Rattle.memory_outside.proofs.failures.law_calls_are_numbered.Goals as goal

pub returns : goal.returns
returns c = calls_count
