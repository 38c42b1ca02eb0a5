use Rattle.memory_outside.proofs.Halves.{front_added}
use Rattle.memory_outside.proofs.mem_sink.MemSinkSink.put.Goals as goal

pub returns-in-Ok-clause-bytes : goal.returns-in-Ok-clause-bytes
returns-in-Ok-clause-bytes c = front_added _ _ _ c.in-Ok.ensures.half
