use Rattle.std.proofs.Common.{◌≡◌, true, length, map, subst, ◌∙◌, sym, ap}
use Rattle.std.specs.List.{list_all}
use Rattle.std.proofs.lemmas.Result.{err_from_is_err_and}
use Rattle.aidl_outside.specs.Files.{is_ascending}
use Rattle.api_versions.specs.Asks.{AsksFolders}
use Rattle.api_versions.specs.Folders.{Folder}
use Rattle.api_versions.specs.Versions.{are_ascending, complete, missing}
use Rattle.api_versions.specs.Seen.{folder_seen}
use Rattle.api_versions.proofs.Asked.{refusal_as}
use Rattle.api_versions.proofs.Ascending.{complete_keeps, present_all}
use Rattle.api_versions.proofs.Gathered.{numbered_versions}
use Rattle.api_versions.proofs.reading.load_all.Goals as goal

pub returns-clause-numbered : goal.returns-clause-numbered
returns-clause-numbered g c = λ numbers.
    let fs = map folder_seen c.args.folders.items in
    let is_missing : c.missing-missing.result ≡ missing fs = c.missing-missing.ensures ∙ ap (λ s. missing (map folder_seen s)) c.as_slice.ensures.value in
    numbered_versions fs c.in_ok-versions.versions (length c.args.folders.items) c.complete.result
    (c.complete.ensures ∙ ap (λ m. complete m c.in_ok-versions.versions) is_missing)
    (c.in_ok-versions.ensures.numbers ∙ ap (map (λ (f : Folder). f.number)) c.present.ensures) numbers

pub returns-clause-ascending : goal.returns-clause-ascending
returns-clause-ascending g c = λ all.
    let p = λ (f : Folder). is_ascending f.sources in
    complete_keeps (λ vs. are_ascending vs ≡ true) c.missing-missing.result c.in_ok-versions.versions c.complete.result c.complete.ensures
    (c.in_ok-versions.ensures.ascending (subst (λ fs. list_all p fs ≡ true) (sym c.present.ensures) (present_all p (map folder_seen c.args.folders.items) all)))

pub returns-in_err-versions-clause-failed : goal.returns-in_err-versions-clause-failed
returns-in_err-versions-clause-failed g c =
    let q = err_from_is_err_and c.from_residual.result c.from_residual.ensures.1 in
    rw (q.1, q.2) (refusal_as _ _ (g.S.Store.fault_record c.load_versions.new.store) c.in_err-versions.field-0.0
    (λ call is. subst (λ fs. AsksFolders c.args.api.now fs (g.S.Store.kept c.args.store.now) call) c.present.ensures is) c.in_err-versions.ensures.failed)
