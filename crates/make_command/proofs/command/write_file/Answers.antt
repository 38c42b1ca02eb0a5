use Rattle.std.proofs.Common.{◌≡◌, ap, ◌∙◌, subst}
use Rattle.std.specs.Str.{encode_utf8_all}
use Rattle.aidl_outside.specs.Faults.{FailedIn, IfStoreFailed, writing}
use Rattle.aidl_outside.specs.Files.{path_below}
use Rattle.aidl_outside.specs.Writes.{Writes}
use Rattle.make_command.proofs.command.write_file.Goals as goal

pub returns-in-Ok-clause-written : goal.returns-in-Ok-clause-written
returns-in-Ok-clause-written g c =
    let place : c.as_str.result.now ≡ path_below c.args.root.now (encode_utf8_all c.args.file.now.path) =
    c.as_str.ensures.value ∙ c.in-Ok.ensures ∙ ap (path_below c.args.root.now) c.as_str-relative.ensures.bytes in
    subst (λ b. Writes (g.S.Store.kept c.args.store.now) (g.S.Store.kept c.write.new.self) (path_below c.args.root.now (encode_utf8_all c.args.file.now.path)) b c.write.result) c.as_slice-bytes.ensures
    (subst (λ p. Writes (g.S.Store.kept c.args.store.now) (g.S.Store.kept c.write.new.self) p c.as_slice-bytes.result.now c.write.result) place c.write.ensures.written)

pub returns-in-Ok-clause-failed : goal.returns-in-Ok-clause-failed
returns-in-Ok-clause-failed g c =
    let place : c.as_str.result.now ≡ path_below c.args.root.now (encode_utf8_all c.args.file.now.path) =
    c.as_str.ensures.value ∙ c.in-Ok.ensures ∙ ap (path_below c.args.root.now) c.as_str-relative.ensures.bytes in
    subst (λ p. IfStoreFailed c.write.result (FailedIn (g.S.Store.fault_record c.write.new.self) (λ call. call ≡ writing p))) place c.write.ensures.failed_call
