use Rattle.std.proofs.Common.{◌∙◌, [], ◌∷◌, ◌++◌, append_assoc, ap, sym, map}
use Rattle.std.proofs.lemmas.Result.{err_from_is_err_and}
use Rattle.api_versions.proofs.Asked.{asks_version, refusal_as, version_short_more}
use Rattle.api_versions.specs.Folders.{Folder}
use Rattle.api_versions.specs.Seen.{folder_seen}
use Rattle.api_versions.proofs.Gathered.{version_more, versions_done, number_more, paths_more}
use Rattle.api_versions.proofs.reading.load_versions.Goals as goal

pub loop-folder-preserved : goal.loop-folder-preserved
loop-folder-preserved g c =
    let kept = g.S.Store.kept in
    let f = folder_seen c.in-Some.folder in
    let first = ap (map folder_seen) c.in-Some.ensures.steps.0 in
    let loaded = c.in_ok-version.ensures in
    let pushed = c.in_ok-push.ensures.ok in
    record {
      all = version_more c.args.api.now (kept c.loop-folder.store) (kept c.args.store.now) f _ _ _ c.loop-folder.versions c.push.new.self c.in_ok-version.version
          c.loop-folder.invariant.unchanged first pushed loaded.told c.loop-folder.invariant.all;
      numbers = number_more c.loop-folder.versions c.push.new.self c.in_ok-version.version f.number _ _ _ pushed loaded.number (ap (map (λ (f : Folder). f.number)) first) c.loop-folder.invariant.numbers;
      left = (
        c.loop-folder.invariant.left.0 ++ f ∷ [],
        c.loop-folder.invariant.left.1 ∙ ap (λ fs. c.loop-folder.invariant.left.0 ++ fs) first ∙ sym (append_assoc c.loop-folder.invariant.left.0 (f ∷ []) _),
        version_short_more c.args.api.now f c.loop-folder.invariant.left.0 c.in_ok-version.version (kept c.loop-folder.store) (kept c.args.store.now) c.loop-folder.invariant.unchanged loaded.told c.loop-folder.invariant.left.2,
      );
      ascending = λ h. paths_more c.loop-folder.versions c.push.new.self c.in_ok-version.version f _ _ pushed first loaded.ascending (c.loop-folder.invariant.ascending h);
      unchanged = loaded.unchanged ∙ c.loop-folder.invariant.unchanged;
      cause = loaded.cause ∙ c.loop-folder.invariant.cause;
    }

pub returns-clause-told : goal.returns-clause-told
returns-clause-told g c =
    versions_done c.args.api.now (g.S.Store.kept c.args.store.now) _ (map folder_seen c.args.folders.items) c.loop-folder.versions
    (sym c.loop-folder.folder-iterator.rest.ok.0 ∙ c.in-None.ensures.steps.0) c.loop-folder.invariant.all

pub returns-in_err-version-clause-failed : goal.returns-in_err-version-clause-failed
returns-in_err-version-clause-failed g c =
    let q = err_from_is_err_and c.from_residual.result c.from_residual.ensures.1 in
    let f = folder_seen c.in-Some.folder in
    rw (q.1, q.2) (refusal_as _ _ (g.S.Store.fault_record c.load_version.new.store) c.in_err-version.field-0.0
    (asks_version c.args.api.now f (map folder_seen c.args.folders.items) c.loop-folder.invariant.left.0 _ _ (g.S.Store.kept c.loop-folder.store) (g.S.Store.kept c.args.store.now) c.loop-folder.invariant.unchanged
    c.loop-folder.invariant.left.1 (ap (map folder_seen) c.in-Some.ensures.steps.0) c.loop-folder.invariant.left.2)
    c.in_err-version.ensures.failed)
