use Rattle.std.proofs.Common.{◌≡◌, true, map, ap, sym, ◌∙◌, subst, string_bytes}
use Rattle.api_versions.specs.Answers.{ReadFaultCause}
use Rattle.aidl_outside.specs.Files.{is_ascending, listing}
use Rattle.aidl_outside.specs.Told.{Tells}
use Rattle.aidl_outside.proofs.lemmas.Telling.{tells}
use Rattle.api_versions.specs.Seen.{folder_seen}
use Rattle.api_versions.proofs.Asked.{answer_as, asks_versions, refusal_as}
use Rattle.api_versions.proofs.Ascending.{folders_ascend}
use Rattle.api_versions.proofs.Gathered.{folders_numbered}
use Rattle.api_versions.proofs.reading.versions.Goals as goal

pub returns-in-Ok-clause-numbered : goal.returns-in-Ok-clause-numbered
returns-in-Ok-clause-numbered g c = c.load_all.ensures.numbered (folders_numbered (map string_bytes c.as_slice.result.now) c.in-Ok.folders.items c.in-Ok.ensures.defined)

pub returns-clause-cause : goal.returns-clause-cause
returns-clause-cause g c =
    let old = g.S.Store.fault_record c.args.store.now in
    subst (λ n. ReadFaultCause old n c.in-Err.fault) (sym c.in_ok-paths.ensures.cause) (c.in-Err.ensures.cause old)

pub returns-clause-failed : goal.returns-clause-failed
returns-clause-failed g c = refusal_as _ _ (g.S.Store.fault_record c.listed.new.store) c.in-Err.fault (λ call never. absurd never) (c.in-Err.ensures.failed (g.S.Store.fault_record c.listed.new.store))

pub returns-in-Ok-clause-ascending : goal.returns-in-Ok-clause-ascending
returns-in-Ok-clause-ascending g c =
    let paths = map string_bytes c.as_slice.result.now in
    c.load_all.ensures.ascending (folders_ascend paths (map folder_seen c.in-Ok.folders.items) (subst (λ ps. is_ascending (map string_bytes ps) ≡ true) (sym c.as_slice.ensures.value) c.in_ok-paths.ensures.ascending) c.in-Ok.ensures.defined)

pub returns-in-Ok-clause-failed : goal.returns-in-Ok-clause-failed
returns-in-Ok-clause-failed g c =
    let kept = g.S.Store.kept c.args.store.now in
    let paths = map string_bytes c.as_slice.result.now in
    let shown : map string_bytes c.in_ok-paths.paths.items ≡ paths = ap (map string_bytes) (sym c.as_slice.ensures.value) in
    let told : Tells kept (λ files. listing c.args.api.now files ≡ paths) =
    tells kept _ _
    (λ files same. let is : listing c.args.api.now files ≡ map string_bytes c.in_ok-paths.paths.items = cc in is ∙ shown) c.in_ok-paths.ensures.told in
    answer_as _ _ (g.S.Store.fault_record c.load_all.new.store) c.load_all.result
    (asks_versions c.args.api.now paths (map folder_seen c.in-Ok.folders.items) (g.S.Store.kept c.listed.new.store) kept c.in_ok-paths.ensures.unchanged told c.in-Ok.ensures.defined) c.load_all.ensures.failed
