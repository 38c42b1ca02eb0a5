use Rattle.std.proofs.Common.{◌∙◌, map, subst}
use Rattle.std.proofs.lemmas.Result.{err_from_is_err_and}
use Rattle.aidl_outside.specs.Asks.{AsksNothing}
use Rattle.aidl_schema.specs.declared.schema.Schema.{Schema}
use Rattle.version_commands.specs.Acting.{DumpActs}
use Rattle.version_commands.proofs.Acting.{acts_left, acts_wrote, fault_cause, halt_cause, opened_ends, opened_goes}
use Rattle.api_versions.specs.Seen.{write_seen}
use Rattle.api_versions.specs.Writes.{LeftAt, Wrote}
use Rattle.std.proofs.Common.{refl, Ok, Err}
use Rattle.tool_frame.specs.Asks.{AsksTree}
use Rattle.tool_frame.specs.declared.halt.Halt.TheVariants.{OutOfMemory}
use Rattle.tool_frame.specs.Halts.{HaltCause, halt_by}
use Rattle.tool_frame.specs.declared.printed.Printed.{Printed}
use Rattle.tool_frame.proofs.lemmas.Writings.{ends_unwritten}
use Rattle.version_commands.specs.Dumped.{Dumps}
use Rattle.version_commands.proofs.dumping.dump_root.Goals as goal

pub returns-in_err-schema-clause-acts : goal.returns-in_err-schema-clause-acts
returns-in_err-schema-clause-acts g c =
    let q = err_from_is_err_and c.from_residual.result c.from_residual.ensures.1 in
    rw (q.1, q.2) (opened_ends (AsksTree c.args.tree.now) _ c.args.tree.now (λ files. Dumps c.args.out.now) (AsksTree c.args.tree.now) _ _ c.in_err-schema.field-0.0 (λ call is. is) refl c.in_err-schema.ensures)

pub returns-in_err-schema-clause-cause : goal.returns-in_err-schema-clause-cause
returns-in_err-schema-clause-cause g c =
    let q = err_from_is_err_and c.from_residual.result c.from_residual.ensures.1 in
    rw (q.1, q.2) (halt_cause Schema _ _ c.in_err-schema.field-0.0 c.in_err-schema.ensures.cause)

pub returns-in_err-due-clause-acts : goal.returns-in_err-due-clause-acts
returns-in_err-due-clause-acts g c =
    let q = err_from_is_err_and c.from_residual-in_err-due.result c.from_residual-in_err-due.ensures.1 in
    rw (q.1, q.2) (ends_unwritten (AsksTree c.args.tree.now) (DumpActs c.args.tree.now c.args.out.now) _ _ (g.S.Store.fault_record c.open.new.store) OutOfMemory c.in_ok-schema.ensures.unchanged tt)

pub returns-in_err-due-clause-cause : goal.returns-in_err-due-clause-cause
returns-in_err-due-clause-cause g c =
    let q = err_from_is_err_and c.from_residual-in_err-due.result c.from_residual-in_err-due.ensures.1 in
    rw (q.1, q.2) c.in_ok-schema.ensures.cause

pub returns-in_err-write_all-clause-acts : goal.returns-in_err-write_all-clause-acts
returns-in_err-write_all-clause-acts g c =
    let q = err_from_is_err_and c.from_residual-in_err-write_all.result c.from_residual-in_err-write_all.ensures.1 in
    rw (q.1, q.2) (opened_goes (AsksTree c.args.tree.now) (g.S.Store.fault_record c.write_all.new.store) c.args.tree.now (λ files. Dumps c.args.out.now) AsksNothing _ _ (g.S.Store.kept c.write_all.new.store) c.in_ok-schema.schema (Err (halt_by c.in_err-write_all.field-0.0)) (λ call never. absurd never)
    c.in_ok-schema.ensures.unchanged c.in_ok-schema.ensures.said
    (acts_left AsksNothing (g.S.Store.fault_record c.write_all.new.store) (Dumps c.args.out.now c.in_ok-schema.schema.decls) _ _ c.in_err-write_all.field-0.0 _ _ c.in_ok-due.ensures.due
    (subst (λ ws. LeftAt (map write_seen ws) (g.S.Store.kept c.open.new.store) (g.S.Store.kept c.write_all.new.store) (g.S.Store.fault_record c.write_all.new.store) c.in_err-write_all.field-0.0) c.as_slice.ensures.value c.in_err-write_all.ensures.wrote)))

pub returns-in_err-write_all-clause-cause : goal.returns-in_err-write_all-clause-cause
returns-in_err-write_all-clause-cause g c =
    let q = err_from_is_err_and c.from_residual-in_err-write_all.result c.from_residual-in_err-write_all.ensures.1 in
    rw (q.1, q.2) (subst (λ faults. HaltCause {T = Printed} faults (g.S.Store.fault_record c.write_all.new.store) (Err (halt_by c.in_err-write_all.field-0.0))) c.in_ok-schema.ensures.cause
    (fault_cause _ _ c.in_err-write_all.field-0.0 c.in_err-write_all.ensures.cause))

pub returns-clause-acts : goal.returns-clause-acts
returns-clause-acts g c =
    opened_goes (AsksTree c.args.tree.now) (g.S.Store.fault_record c.write_all.new.store) c.args.tree.now (λ files. Dumps c.args.out.now) AsksNothing _ _ (g.S.Store.kept c.write_all.new.store) c.in_ok-schema.schema (Ok c.in_ok-due.due.printed) (λ call never. absurd never)
    c.in_ok-schema.ensures.unchanged c.in_ok-schema.ensures.said
    (acts_wrote AsksNothing (g.S.Store.fault_record c.write_all.new.store) (Dumps c.args.out.now c.in_ok-schema.schema.decls) (map write_seen c.in_ok-due.due.writes.items) c.in_ok-due.due.printed _ _ c.in_ok-due.ensures.due
    (subst (λ ws. Wrote (map write_seen ws) (g.S.Store.kept c.open.new.store) (g.S.Store.kept c.write_all.new.store)) c.as_slice.ensures.value c.in_ok-write_all.ensures.wrote))

pub returns-clause-cause : goal.returns-clause-cause
returns-clause-cause g c = c.in_ok-write_all.ensures.cause ∙ c.in_ok-schema.ensures.cause
