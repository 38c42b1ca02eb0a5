use Rattle.std.proofs.Common.{ap, ◌∙◌, subst, Some}
use Rattle.std.specs.FinMap.{get}
use Rattle.aidl_base.specs.Limits.{limit_number}
use Rattle.aidl_outside.specs.Files.{IsRead}
use Rattle.aidl_outside.proofs.lemmas.Telling.{tells}
use Rattle.tool_frame.proofs.Loaded.{within_read}
use Rattle.tool_frame.proofs.loading.load.Goals as goal

pub returns-in-Ok-Some-clause-file : goal.returns-in-Ok-Some-clause-file
returns-in-Ok-Some-clause-file g c =
    let path = c.args.path.now in
    tells (g.S.Store.kept c.args.store.now) (λ files. IsRead c.number.result (get files path) c.in-Ok-Some.field-0) _
    (λ files read. ap Some c.within_limit.ensures.bytes
    ∙ within_read c.args.which (get files path) (Some c.in-Ok-Some.bytes)
    (subst (λ file. IsRead (limit_number c.args.which) (get files path) file) c.in-Ok-Some.field-0-is (subst (λ most. IsRead most (get files path) c.in-Ok-Some.field-0) c.number.ensures read)))
    c.in-Ok-Some.ensures.found
