use Rattle.std.proofs.Common.{refl}
use Rattle.std.proofs.lemmas.Result.{err_from_is_err_and}
use Rattle.api_freeze.specs.declared.freezing.Frozen.{Frozen}
use Rattle.api_freeze.proofs.Failed.{refused_call, refused_cause, write_cause}
use Rattle.api_freeze.proofs.Files.{freezes_done, freezes_refused, freezes_stopped}
use Rattle.api_freeze.proofs.freezing.freeze_next.Goals as goal

pub returns-in-Ok-clause-answer : goal.returns-in-Ok-clause-answer
returns-in-Ok-clause-answer g c =
    let kept = g.S.Store.kept in
    let done = c.in-Ok.ensures in
    let ready = c.in_ok-next.ensures.answer in
    freezes_done c.args.api.now c.args.versions c.args.schema.now.decls (kept c.args.store.now) (kept c.write_next.new.store) (g.S.Store.fault_record c.write_next.new.store) c.in_ok-next.next.number c.in_ok-next.next.files c.in-Ok.frozen
    ready.0 ready.1 done.version done.hash done.wrote

pub returns-in-Err-clause-answer : goal.returns-in-Err-clause-answer
returns-in-Err-clause-answer g c =
    let kept = g.S.Store.kept in
    let ready = c.in_ok-next.ensures.answer in
    freezes_stopped c.args.api.now c.args.versions c.args.schema.now.decls (kept c.args.store.now) (kept c.write_next.new.store) (g.S.Store.fault_record c.write_next.new.store) c.in_ok-next.next.number c.in_ok-next.next.files c.in-Err.fault
    ready.0 ready.1 c.in-Err.ensures.wrote

pub returns-in-Err-clause-cause : goal.returns-in-Err-clause-cause
returns-in-Err-clause-cause g c = write_cause Frozen _ _ c.in-Err.fault c.in-Err.ensures.cause

pub returns-in_err-next-clause-answer : goal.returns-in_err-next-clause-answer
returns-in_err-next-clause-answer g c =
    let kept = g.S.Store.kept in
    let q = err_from_is_err_and c.from_residual.result c.from_residual.ensures.1 in
    rw (q.1, q.2) (freezes_refused c.args.api.now c.args.versions c.args.schema.now.decls (kept c.args.store.now) (kept c.args.store.now) (g.S.Store.fault_record c.args.store.now) c.in_err-next.field-0.0 refl c.in_err-next.ensures.answer)

pub returns-in_err-next-clause-cause : goal.returns-in_err-next-clause-cause
returns-in_err-next-clause-cause g c =
    let q = err_from_is_err_and c.from_residual.result c.from_residual.ensures.1 in
    rw (q.1, q.2) (refused_cause c.args.versions c.args.schema.now.decls (g.S.Store.fault_record c.args.store.now) c.in_err-next.field-0.0 c.in_err-next.ensures.answer)

pub returns-in_err-next-clause-failed : goal.returns-in_err-next-clause-failed
returns-in_err-next-clause-failed g c =
    let q = err_from_is_err_and c.from_residual.result c.from_residual.ensures.1 in
    rw (q.1, q.2) (refused_call c.args.versions c.args.schema.now.decls _ (g.S.Store.fault_record c.args.store.now) c.in_err-next.field-0.0 c.in_err-next.ensures.answer)
