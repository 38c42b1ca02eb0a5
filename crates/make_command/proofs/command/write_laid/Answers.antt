use Rattle.std.proofs.Common.{◌≡◌, subst, string_bytes, Err}
use Rattle.aidl_outside.specs.Faults.{FailedIn, WhereStoreFailed, writing}
use Rattle.aidl_outside.specs.Writes.{Sets, Write, Writes}
use Rattle.make_command.specs.steps.Laying.{tree_writes}
use Rattle.make_command.proofs.Laying.{left_next, left_stopped}
use Rattle.make_command.proofs.command.write_laid.Goals as goal

pub returns-in-Ok-clause-wrote : goal.returns-in-Ok-clause-wrote
returns-in-Ok-clause-wrote g c =
    let w : Write = record { path = string_bytes c.args.laid.now.calls_path; bytes = c.args.laid.now.calls } in
    let set : Sets (g.S.Store.kept c.args.store.now) (g.S.Store.kept c.write.new.self) w.path w.bytes =
    subst (λ b. Sets (g.S.Store.kept c.args.store.now) (g.S.Store.kept c.write.new.self) w.path b) c.as_slice-calls.ensures
    (subst (λ p. Sets (g.S.Store.kept c.args.store.now) (g.S.Store.kept c.write.new.self) p c.as_slice-calls.result.now) c.as_str-path.ensures.value c.in-Ok.ensures.written) in
    left_next w (tree_writes c.args.laid.now) _ (g.S.Store.kept c.write.new.self) _ (g.S.Store.fault_record c.write_trees.new.store) c.write_trees.result set c.write_trees.ensures.wrote

pub returns-in-Err-clause-wrote : goal.returns-in-Err-clause-wrote
returns-in-Err-clause-wrote g c =
    let w : Write = record { path = string_bytes c.args.laid.now.calls_path; bytes = c.args.laid.now.calls } in
    left_stopped w (tree_writes c.args.laid.now) _ _ (g.S.Store.fault_record c.write.new.self) c.in-Err.fault
    (subst (λ b. Writes {T = Unit {0}} (g.S.Store.kept c.args.store.now) (g.S.Store.kept c.write.new.self) w.path b (Err c.in-Err.fault)) c.as_slice-calls.ensures
    (subst (λ p. Writes {T = Unit {0}} (g.S.Store.kept c.args.store.now) (g.S.Store.kept c.write.new.self) p c.as_slice-calls.result.now (Err c.in-Err.fault)) c.as_str-path.ensures.value c.in-Err.ensures.written))
    (subst (λ p. WhereStoreFailed c.in-Err.fault (FailedIn (g.S.Store.fault_record c.write.new.self) (λ call. call ≡ writing p))) c.as_str-path.ensures.value c.in-Err.ensures.failed_call)
