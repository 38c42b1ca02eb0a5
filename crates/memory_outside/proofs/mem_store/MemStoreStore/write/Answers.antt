use Rattle.memory_outside.specs.Mem.{store_files}
use Rattle.memory_outside.proofs.Kept.{changes_only}
use Rattle.memory_outside.proofs.mem_store.MemStoreStore.write.Goals as goal

pub returns-in-Ok-clause-written : goal.returns-in-Ok-clause-written
returns-in-Ok-clause-written c =
    changes_only (store_files c.args.self.now) (store_files c.write_half.new.self) c.args.path.now _ c.in-Ok.ensures.half
