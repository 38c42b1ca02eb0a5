use Rattle.api_freeze.proofs.Failed.{write_cause}
use Rattle.api_freeze.proofs.rehashing.rehash_whole.Goals as goal

pub returns-in-Err-clause-cause : goal.returns-in-Err-clause-cause
returns-in-Err-clause-cause g c = write_cause (Unit {0}) _ _ c.in-Err.fault c.in-Err.ensures.cause
