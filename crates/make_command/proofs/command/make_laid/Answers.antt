use Rattle.std.proofs.Common.{List, Err, refl, subst}
use Rattle.aidl_outside.specs.declared.store.StoreFault.{StoreFault}
use Rattle.aidl_outside.specs.declared.store.StoreFault.TheVariants.{Failed, OutOfMemory}
use Rattle.aidl_outside.specs.Causes.{StoreCause}
use Rattle.aidl_outside.specs.Writes.{Write}
use Rattle.make_command.specs.Making.{MakeTakes, make_writes}
use Rattle.make_command.specs.steps.Laying.{TakesLaid, laid_writes}
use Rattle.make_command.proofs.Laying.{ended_failed, ended_lost, ended_made, same_writes, takes_made}
use Rattle.api_versions.specs.Writes.{Left, Wrote}
use Rattle.tool_frame.specs.Exit.{number_of}
use Rattle.tool_frame.specs.Seen.{Seen, seen_by}
use Rattle.make_command.proofs.command.make_laid.Goals as goal

pub returns-in-Ok : goal.returns-in-Ok
returns-in-Ok g c = λ n out is.
    let before : Seen =
    seen_by g.S.Store.kept g.S.Store.fault_record g.K.Sink.told g.K.Sink.fault_record g.L.Link.log g.L.Link.is_faithful g.L.Link.fault_record c.args.store.now c.args.sink.now c.args.link.now in
    let now : Seen =
    seen_by g.S.Store.kept g.S.Store.fault_record g.K.Sink.told g.K.Sink.fault_record g.L.Link.log g.L.Link.is_faithful g.L.Link.fault_record c.write_laid.new.store c.run_laid.new.sink c.run_laid.new.link in
    ended_made (make_writes n out) (MakeTakes n out) before now (TakesLaid c.args.laid) (number_of c.run_laid.result)
    (subst (λ (ws : List Write). Wrote ws before.kept now.kept) (same_writes n out c.args.laid is) c.in-Ok.ensures.wrote) c.in-Ok.ensures.cause (takes_made n out c.args.laid is) c.run_laid.ensures

pub returns-in-Err-Failed : goal.returns-in-Err-Failed
returns-in-Err-Failed g c = λ n out is.
    let before : Seen =
    seen_by g.S.Store.kept g.S.Store.fault_record g.K.Sink.told g.K.Sink.fault_record g.L.Link.log g.L.Link.is_faithful g.L.Link.fault_record c.args.store.now c.args.sink.now c.args.link.now in
    let now : Seen =
    seen_by g.S.Store.kept g.S.Store.fault_record g.K.Sink.told g.K.Sink.fault_record g.L.Link.log g.L.Link.is_faithful g.L.Link.fault_record c.write_laid.new.store c.args.sink.now c.args.link.now in
    ended_failed (make_writes n out) (MakeTakes n out) before now
    (subst (λ (ws : List Write). Left {A = Unit {0}} ws before.kept now.kept now.store_faults (Err Failed)) (same_writes n out c.args.laid is)
    (subst (λ (f : StoreFault). Left {A = Unit {0}} (laid_writes c.args.laid) before.kept now.kept now.store_faults (Err f)) c.in-Err-Failed.field-0-is c.in-Err-Failed.ensures.wrote))
    (subst (λ (f : StoreFault). StoreCause {T = Unit {0}} before.store_faults now.store_faults (Err f)) c.in-Err-Failed.field-0-is c.in-Err-Failed.ensures.cause) refl

pub returns : goal.returns
returns g c = λ n out is.
    let before : Seen =
    seen_by g.S.Store.kept g.S.Store.fault_record g.K.Sink.told g.K.Sink.fault_record g.L.Link.log g.L.Link.is_faithful g.L.Link.fault_record c.args.store.now c.args.sink.now c.args.link.now in
    let now : Seen =
    seen_by g.S.Store.kept g.S.Store.fault_record g.K.Sink.told g.K.Sink.fault_record g.L.Link.log g.L.Link.is_faithful g.L.Link.fault_record c.write_laid.new.store c.args.sink.now c.args.link.now in
    ended_lost (make_writes n out) (MakeTakes n out) before now
    (subst (λ (ws : List Write). Left {A = Unit {0}} ws before.kept now.kept now.store_faults (Err OutOfMemory)) (same_writes n out c.args.laid is)
    (subst (λ (f : StoreFault). Left {A = Unit {0}} (laid_writes c.args.laid) before.kept now.kept now.store_faults (Err f)) c.in-Err-OutOfMemory.field-0-is c.in-Err-OutOfMemory.ensures.wrote))
    (subst (λ (f : StoreFault). StoreCause {T = Unit {0}} before.store_faults now.store_faults (Err f)) c.in-Err-OutOfMemory.field-0-is c.in-Err-OutOfMemory.ensures.cause) refl
