use Rattle.std.proofs.Common.{◌∙◌}
use Rattle.std.proofs.lemmas.Result.{err_from_is_err_and}
use Rattle.api_versions.specs.Seen.{folder_seen}
use Rattle.api_versions.proofs.Asked.{asks_hash, asks_source, refusal_as}
use Rattle.api_versions.proofs.reading.load_version.Goals as goal

pub returns-in_err-files-clause-failed : goal.returns-in_err-files-clause-failed
returns-in_err-files-clause-failed g c =
    let q = err_from_is_err_and c.from_residual-in_err-files.result c.from_residual-in_err-files.ensures.1 in
    rw (q.1, q.2) (refusal_as _ _ (g.S.Store.fault_record c.load_sources.new.store) c.in_err-files.field-0.0
    (asks_source c.args.api.now c.as_str.result.now (folder_seen c.args.folder) (g.S.Store.kept c.args.store.now) (c.as_str.ensures.value ∙ c.in_ok-path.ensures)) c.in_err-files.ensures.failed)

pub returns-in_err-kept-clause-failed : goal.returns-in_err-kept-clause-failed
returns-in_err-kept-clause-failed g c =
    let q = err_from_is_err_and c.from_residual-in_err-kept.result c.from_residual-in_err-kept.ensures.1 in
    rw (q.1, q.2) (refusal_as _ _ (g.S.Store.fault_record c.load_below.new.store) c.in_err-kept.field-0.0
    (asks_hash c.args.api.now c.as_str.result.now c.as_str-2.result.now (folder_seen c.args.folder) c.in_ok-files.files (g.S.Store.kept c.load_sources.new.store) (g.S.Store.kept c.args.store.now)
    (c.as_str.ensures.value ∙ c.in_ok-path.ensures) (c.as_str-2.ensures.value ∙ c.in_ok-path.ensures) c.in_ok-files.ensures.told) c.in_err-kept.ensures.failed)
