use Rattle.memory_outside.proofs.Numbers.{no_fault}
use Rattle.memory_outside.proofs.failures.law_no_number_no_fault.Goals as goal

pub returns : goal.returns
returns c = no_fault
