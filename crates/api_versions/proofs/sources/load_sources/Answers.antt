use Rattle.std.proofs.Common.{◌≡◌, ◌∙◌, [], ◌∷◌, ◌++◌, append_assoc, Ok, ap, sym, subst, map, string_bytes}
use Rattle.std.proofs.lemmas.Result.{err_from_is_err_and}
use Rattle.std.proofs.lemmas.Str.{encodes-chars, IsUtf8-string_bytes}
use Rattle.aidl_base.specs.declared.limit.LimitName.TheVariants.{FileBytes}
use Rattle.aidl_base.specs.Limits.{limit_number}
use Rattle.aidl_outside.specs.Faults.{reading}
use Rattle.aidl_outside.specs.Files.{path_below}
use Rattle.aidl_outside.specs.Told.{Tells}
use Rattle.api_versions.specs.Versions.{file_at}
use Rattle.aidl_outside.proofs.lemmas.Asked.{asks_next}
use Rattle.api_versions.proofs.Asked.{refusal_as, source_short_more}
use Rattle.api_versions.proofs.Collected.{source_more, sources_done, ascending_more}
use Rattle.api_versions.proofs.sources.load_sources.Goals as goal

pub loop-path-preserved : goal.loop-path-preserved
loop-path-preserved g c =
    let kept = g.S.Store.kept in
    let path = string_bytes c.in-Some.path in
    let first = ap (map string_bytes) c.in-Some.ensures.steps.0 in
    let loaded = c.in_ok-file.ensures in
    let told = subst (λ p. Tells (kept c.loop-path.store) (λ files. file_at files (path_below c.args.folder.now p) ≡ Ok c.in_ok-file.file)) c.as_str.ensures.value loaded.told in
    record {
      all = source_more c.args.folder.now (kept c.loop-path.store) (kept c.args.store.now) path _ _ _ c.loop-path.files c.push_source.new.files c.in_ok-file.file
          c.loop-path.invariant.unchanged first c.in_ok-push_source.ensures told c.loop-path.invariant.all;
      left = (
        c.loop-path.invariant.left.0 ++ path ∷ [],
        c.loop-path.invariant.left.1 ∙ ap (λ ps. c.loop-path.invariant.left.0 ++ ps) first ∙ sym (append_assoc c.loop-path.invariant.left.0 (path ∷ []) _),
        source_short_more c.args.folder.now path c.loop-path.invariant.left.0 (kept c.loop-path.store) (kept c.args.store.now) c.in_ok-file.file c.loop-path.invariant.unchanged told c.loop-path.invariant.left.2,
      );
      ascending = λ h. ascending_more c.loop-path.files c.push_source.new.files path c.in_ok-file.file _ _ (encodes-chars path (IsUtf8-string_bytes c.in-Some.path)) first c.in_ok-push_source.ensures (c.loop-path.invariant.ascending h);
      unchanged = loaded.unchanged ∙ c.loop-path.invariant.unchanged;
      cause = loaded.cause ∙ c.loop-path.invariant.cause;
    }

pub returns-clause-told : goal.returns-clause-told
returns-clause-told g c =
    sources_done c.args.folder.now (g.S.Store.kept c.args.store.now) _ (map string_bytes c.args.paths.items) c.loop-path.files
    (sym c.loop-path.path-iterator.rest.ok.0 ∙ c.in-None.ensures.steps.0) c.loop-path.invariant.all

pub returns-in_err-file-clause-failed : goal.returns-in_err-file-clause-failed
returns-in_err-file-clause-failed g c =
    let q = err_from_is_err_and c.from_residual.result c.from_residual.ensures.1 in
    rw (q.1, q.2) (refusal_as _ _ (g.S.Store.fault_record c.load_below.new.store) c.in_err-file.field-0.0
    (λ call is. asks_next FileBytes c.args.folder.now (string_bytes c.in-Some.path) (map string_bytes c.args.paths.items) c.loop-path.invariant.left.0 _ _ (g.S.Store.kept c.loop-path.store) (g.S.Store.kept c.args.store.now)
    c.loop-path.invariant.left.1 (ap (map string_bytes) c.in-Some.ensures.steps.0) c.loop-path.invariant.left.2 call (subst (λ p. call ≡ reading (path_below c.args.folder.now p) (limit_number FileBytes)) c.as_str.ensures.value is))
    c.in_err-file.ensures.failed)
