use Rattle.std.proofs.Common.{◌∙◌, sym, subst}
use Rattle.std.specs.FinMap.{get}
use Rattle.aidl_outside.specs.Files.{IsRead}
use Rattle.api_versions.specs.Versions.{file_at}
use Rattle.aidl_outside.proofs.lemmas.Telling.{tells}
use Rattle.api_versions.proofs.Loaded.{gives_same, within_read}
use Rattle.api_versions.proofs.load.load.Goals as goal

pub returns-in-Ok-clause-told : goal.returns-in-Ok-clause-told
returns-in-Ok-clause-told g c =
    let path = c.args.path.now in
    tells (g.S.Store.kept c.args.store.now) (λ files. IsRead c.number.result (get files path) c.in-Ok.file) _
    (λ files read. gives_same (file_at files path) c.held.result (sym (c.held.ensures ∙ within_read (get files path) c.in-Ok.file (subst (λ most. IsRead most (get files path) c.in-Ok.file) c.number.ensures read))))
    c.in-Ok.ensures.found
