use Rattle.memory_outside.proofs.Kept.{sorted_new, added}
use Rattle.memory_outside.proofs.mem_store.MemStore.add.Goals as goal

pub invariant_of-self : goal.invariant_of-self
invariant_of-self c = record { sorted = sorted_new c.add_to.result c.args.self.now.files.items c.add_to.new.files.items c.args.file c.args.self.now.sorted c.add_to.ensures.ok c.add_to.ensures.err }

pub returns-clause-ok : goal.returns-clause-ok
returns-clause-ok c = added c.add_to.result c.args.self.now.files.items c.add_to.new.files.items c.args.file c.args.self.now.sorted c.add_to.ensures.ok
