use Rattle.std.proofs.Common.{ℕ, List, Option, Some, None, ◌∙◌, subst, inl, inr, refl, Ok, Err}
use Rattle.std.proofs.lemmas.Result.{err_from_is_err_and}
use Rattle.aidl_outside.specs.Files.{Files}
use Rattle.aidl_outside.specs.Told.{Tells}
use Rattle.aidl_schema.specs.declared.schema.Schema.{Schema}
use Rattle.tree_commands.specs.Opens.{AsksCheckedThen, HasOne}
use Rattle.tree_commands.specs.Opens.{IsOpened}
use Rattle.version_commands.proofs.Acting.{early_cause, freeze_cause, freeze_done, freeze_refused, halt_cause, opened_ends, opened_goes}
use Rattle.api_versions.specs.Asks.{AsksVersions}
use Rattle.api_versions.specs.Versions.{versions_at}
use Rattle.tool_frame.specs.Asks.{AsksTree}
use Rattle.tool_frame.specs.declared.printed.Printed.{Printed}
use Rattle.tool_frame.specs.Halts.{HaltCause, halt_of}
use Rattle.version_commands.specs.Frozen.{Freezes, IsUnfrozen}
use Rattle.version_commands.proofs.freezing.freeze_root.Goals as goal

-- the tree is checked
has_one : (kept : Option Files) (root : List ℕ) (schema : Schema) → Tells kept (λ files. IsOpened root files schema) → Tells kept (HasOne root)
has_one None root schema told = tt
has_one (Some files) root schema told = (schema.decls, told)

pub returns-in_err-schema-clause-acts : goal.returns-in_err-schema-clause-acts
returns-in_err-schema-clause-acts g c =
    let q = err_from_is_err_and c.from_residual.result c.from_residual.ensures.1 in
    rw (q.1, q.2) (opened_ends (AsksCheckedThen c.args.tree.now (AsksVersions c.args.api.now)) _ c.args.tree.now (λ files. Freezes c.args.api.now (versions_at files c.args.api.now)) (AsksTree c.args.tree.now) _ _
    c.in_err-schema.field-0.0 (λ call is. inl is) refl c.in_err-schema.ensures)

pub returns-in_err-schema-clause-cause : goal.returns-in_err-schema-clause-cause
returns-in_err-schema-clause-cause g c =
    let q = err_from_is_err_and c.from_residual.result c.from_residual.ensures.1 in
    rw (q.1, q.2) (halt_cause Schema _ _ c.in_err-schema.field-0.0 c.in_err-schema.ensures.cause)

pub returns-in_err-printed-in-Ok-clause-acts : goal.returns-in_err-printed-in-Ok-clause-acts
returns-in_err-printed-in-Ok-clause-acts g c =
    let q = err_from_is_err_and c.from_residual-in_err-printed-in-Ok.result c.from_residual-in_err-printed-in-Ok.ensures.1 in
    rw (q.1, q.2) (opened_goes (AsksCheckedThen c.args.tree.now (AsksVersions c.args.api.now)) (g.S.Store.fault_record c.freeze.new.store) c.args.tree.now (λ files. Freezes c.args.api.now (versions_at files c.args.api.now)) (AsksVersions c.args.api.now) _ _ (g.S.Store.kept c.freeze.new.store)
    c.in_ok-schema.schema (Err (halt_of c.in_err-printed-in-Ok.field-0.0)) (λ call is. inr (is, has_one (g.S.Store.kept c.args.store.now) c.args.tree.now c.in_ok-schema.schema c.in_ok-schema.ensures.said)) c.in_ok-schema.ensures.unchanged c.in_ok-schema.ensures.said
    (freeze_done (AsksVersions c.args.api.now) (g.S.Store.fault_record c.freeze.new.store) c.args.api.now c.in_ok-schema.schema.decls _ _ c.in-Ok.version (Err c.in_err-printed-in-Ok.field-0.0) c.in-Ok.ensures.untold c.in-Ok.ensures.told c.in_err-printed-in-Ok.ensures))

pub returns-in_err-printed-in-Ok-clause-cause : goal.returns-in_err-printed-in-Ok-clause-cause
returns-in_err-printed-in-Ok-clause-cause g c =
    let q = err_from_is_err_and c.from_residual-in_err-printed-in-Ok.result c.from_residual-in_err-printed-in-Ok.ensures.1 in
    rw (q.1, q.2) (early_cause _ _ c.in_err-printed-in-Ok.field-0.0 (c.in-Ok.ensures.cause ∙ c.in_ok-schema.ensures.cause))

pub returns-in-Ok-clause-acts : goal.returns-in-Ok-clause-acts
returns-in-Ok-clause-acts g c =
    opened_goes (AsksCheckedThen c.args.tree.now (AsksVersions c.args.api.now)) (g.S.Store.fault_record c.freeze.new.store) c.args.tree.now (λ files. Freezes c.args.api.now (versions_at files c.args.api.now)) (AsksVersions c.args.api.now) _ _ (g.S.Store.kept c.freeze.new.store)
    c.in_ok-schema.schema (Ok c.in_ok-printed-in-Ok.printed) (λ call is. inr (is, has_one (g.S.Store.kept c.args.store.now) c.args.tree.now c.in_ok-schema.schema c.in_ok-schema.ensures.said)) c.in_ok-schema.ensures.unchanged c.in_ok-schema.ensures.said
    (freeze_done (AsksVersions c.args.api.now) (g.S.Store.fault_record c.freeze.new.store) c.args.api.now c.in_ok-schema.schema.decls _ _ c.in-Ok.version (Ok c.in_ok-printed-in-Ok.printed) c.in-Ok.ensures.untold c.in-Ok.ensures.told c.in_ok-printed-in-Ok.ensures)

pub returns-in-Ok-clause-cause : goal.returns-in-Ok-clause-cause
returns-in-Ok-clause-cause g c = c.in-Ok.ensures.cause ∙ c.in_ok-schema.ensures.cause

pub returns-clause-acts : goal.returns-clause-acts
returns-clause-acts g c =
    opened_goes (AsksCheckedThen c.args.tree.now (AsksVersions c.args.api.now)) (g.S.Store.fault_record c.freeze.new.store) c.args.tree.now (λ files. Freezes c.args.api.now (versions_at files c.args.api.now)) (AsksVersions c.args.api.now) _ _ (g.S.Store.kept c.freeze.new.store)
    c.in_ok-schema.schema (Err c.freeze_refusal.result) (λ call is. inr (is, has_one (g.S.Store.kept c.args.store.now) c.args.tree.now c.in_ok-schema.schema c.in_ok-schema.ensures.said)) c.in_ok-schema.ensures.unchanged c.in_ok-schema.ensures.said
    (freeze_refused (AsksVersions c.args.api.now) (g.S.Store.fault_record c.freeze.new.store) c.args.api.now c.in_ok-schema.schema.decls _ _ c.in-Err.fault c.freeze_refusal.result c.in-Err.ensures.untold c.in-Err.ensures.told c.freeze_refusal.ensures c.in-Err.ensures.failed)

pub returns-clause-cause : goal.returns-clause-cause
returns-clause-cause g c =
    subst (λ faults. HaltCause {T = Printed} faults (g.S.Store.fault_record c.freeze.new.store) (Err c.freeze_refusal.result)) c.in_ok-schema.ensures.cause
    (freeze_cause (IsUnfrozen c.args.api.now) c.in-Err.fault c.freeze_refusal.result _ _ c.freeze_refusal.ensures c.in-Err.ensures.cause)
