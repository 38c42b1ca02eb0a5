use Rattle.std.proofs.Common.{Ok, Err, subst}
use Rattle.std.proofs.lemmas.Result.{err_from_is_err_and}
use Rattle.tool_frame.specs.Results.{Gives}
use Rattle.version_commands.specs.Rehashed.{IsUnhashed, rehashed}
use Rattle.api_versions.specs.Asks.{AsksVersions}
use Rattle.version_commands.proofs.Acting.{early_cause, rehash_cause, rehash_done, rehash_refused}
use Rattle.tool_frame.specs.declared.printed.Early.{Early}
use Rattle.tool_frame.specs.declared.printed.Printed.{Printed}
use Rattle.std.specs.Prelude.{Result}
use Rattle.version_commands.proofs.rehashing.rehash_versions.Goals as goal

pub returns-in_err-printed-in-Ok-clause-acts : goal.returns-in_err-printed-in-Ok-clause-acts
returns-in_err-printed-in-Ok-clause-acts g c =
    let q = err_from_is_err_and c.from_residual.result c.from_residual.ensures.1 in
    let r : Result Printed Early = Err c.in_err-printed-in-Ok.field-0.0 in
    rw (q.1, q.2) (rehash_done (AsksVersions c.args.api.now) (g.S.Store.fault_record c.rehash.new.store) c.args.api.now _ _ c.in-Ok.numbers (Err c.in_err-printed-in-Ok.field-0.0) c.in-Ok.ensures.untold c.in-Ok.ensures.told c.in-Ok.ensures.wrote
    (subst (λ n. Gives r (rehashed n)) c.len.ensures c.in_err-printed-in-Ok.ensures))

pub returns-in_err-printed-in-Ok-clause-cause : goal.returns-in_err-printed-in-Ok-clause-cause
returns-in_err-printed-in-Ok-clause-cause g c =
    let q = err_from_is_err_and c.from_residual.result c.from_residual.ensures.1 in
    rw (q.1, q.2) (early_cause _ _ c.in_err-printed-in-Ok.field-0.0 c.in-Ok.ensures.cause)

pub returns-in_ok-printed-in-Ok-clause-acts : goal.returns-in_ok-printed-in-Ok-clause-acts
returns-in_ok-printed-in-Ok-clause-acts g c =
    let r : Result Printed Early = Ok c.in_ok-printed-in-Ok.printed in
    rehash_done (AsksVersions c.args.api.now) (g.S.Store.fault_record c.rehash.new.store) c.args.api.now _ _ c.in-Ok.numbers (Ok c.in_ok-printed-in-Ok.printed) c.in-Ok.ensures.untold c.in-Ok.ensures.told c.in-Ok.ensures.wrote
    (subst (λ n. Gives r (rehashed n)) c.len.ensures c.in_ok-printed-in-Ok.ensures)

pub returns-in_ok-printed-in-Ok-clause-cause : goal.returns-in_ok-printed-in-Ok-clause-cause
returns-in_ok-printed-in-Ok-clause-cause g c = c.in-Ok.ensures.cause

pub returns-in-Err-clause-acts : goal.returns-in-Err-clause-acts
returns-in-Err-clause-acts g c =
    rehash_refused (AsksVersions c.args.api.now) (g.S.Store.fault_record c.rehash.new.store) c.args.api.now _ _ c.in-Err.fault c.rehash_refusal.result c.in-Err.ensures.untold c.in-Err.ensures.told c.in-Err.ensures.wrote
    c.rehash_refusal.ensures c.in-Err.ensures.failed

pub returns-in-Err-clause-cause : goal.returns-in-Err-clause-cause
returns-in-Err-clause-cause g c = rehash_cause IsUnhashed c.in-Err.fault c.rehash_refusal.result _ _ c.rehash_refusal.ensures c.in-Err.ensures.cause
