use Rattle.memory_outside.proofs.Kept.{sorted_after, insert_after}
use Rattle.memory_outside.proofs.mem_store.MemStore.set_bytes.Goals as goal

pub invariant_of-self : goal.invariant_of-self
invariant_of-self c = record { sorted = sorted_after c.set_in.result c.args.self.now.files.items c.set_in.new.files.items c.in_ok-file.file c.args.self.now.sorted c.set_in.ensures.ok c.set_in.ensures.err }

pub returns-clause-ok : goal.returns-clause-ok
returns-clause-ok c =
    rw (← c.in_ok-file.ensures.path, ← c.in_ok-file.ensures.bytes)
    (insert_after c.set_in.result c.args.self.now.files.items c.set_in.new.files.items c.in_ok-file.file c.args.self.now.sorted c.set_in.ensures.ok)
