use Rattle.std.proofs.Common.{◌≡◌, Ok, subst}
use Rattle.std.proofs.lemmas.Result.{err_from_is_err_and}
use Rattle.api_versions.specs.Versions.{versions_at}
use Rattle.tool_frame.specs.Results.{printed}
use Rattle.tool_frame.proofs.lemmas.Halts.{early_as, known_early, known_last}
use Rattle.version_commands.specs.Verified.{verified}
use Rattle.version_commands.proofs.Versions.{prints_unread, verified_by}
use Rattle.version_commands.proofs.verifying.verify_versions.Goals as goal

pub returns-in_err-printed-in-Ok : goal.returns-in_err-printed-in-Ok
returns-in_err-printed-in-Ok g c =
    let q = err_from_is_err_and c.from_residual.result c.from_residual.ensures.1 in
    let api = c.args.api.now in
    let vs = c.in-Ok.versions in
    let early = c.in_err-printed-in-Ok.field-0.0 in
    rw (q.1, q.2) (known_early _ _ _ _ _ (λ files. versions_at files api ≡ Ok vs) early
    (λ files found. early_as early _ _ (λ a is. verified_by api files vs a found (subst (λ given. a ≡ verified given) c.as_slice.ensures is)) c.in_err-printed-in-Ok.ensures)
    (record { told = c.in-Ok.ensures.told; unchanged = c.in-Ok.ensures.unchanged; good = c.in-Ok.ensures.cause }))

pub returns-in_ok-printed-in-Ok : goal.returns-in_ok-printed-in-Ok
returns-in_ok-printed-in-Ok g c =
    let api = c.args.api.now in
    let vs = c.in-Ok.versions in
    let p = c.in_ok-printed-in-Ok.printed in
    known_last _ _ _ _ _ (λ files. versions_at files api ≡ Ok vs) p
    (λ files found. verified_by api files vs (printed p) found (subst (λ given. printed p ≡ verified given) c.as_slice.ensures c.in_ok-printed-in-Ok.ensures))
    (record { told = c.in-Ok.ensures.told; unchanged = c.in-Ok.ensures.unchanged; good = c.in-Ok.ensures.cause })

pub returns-in-Err : goal.returns-in-Err
returns-in-Err g c =
    prints_unread c.args.api.now _ _ c.in-Err.ensures.unchanged c.in-Err.fault c.versions_refusal.result c.in-Err.ensures.told c.in-Err.ensures.cause c.in-Err.ensures.failed c.versions_refusal.ensures
