use Rattle.std.proofs.Common.{refl}
use Rattle.tree_files.proofs.Standing.{on_ok, faulty}
use Rattle.tree_files.proofs.found.Found.add_fault.Goals as goal

pub returns-in_default : goal.returns-in_default
returns-in_default c = on_ok c.push.result _ _ (λ e f h. faulty c.args.number f c.args.self.now c.push.new.self (record { file = c.args.number; fault = c.args.fault }) e refl c.in_default.not-OutOfMemory h) c.push.ensures.ok
