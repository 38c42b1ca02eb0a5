use Rattle.std.proofs.Common.{◌≡◌}
use Rattle.run_command.specs.Running.{RunTakes, run_course}
use Rattle.run_command.specs.steps.Preparing.{IsPrepared, IsUnprepared}
use Rattle.run_command.specs.Tags.{ProjectsChecked}
use Rattle.run_command.proofs.lemmas.CourseEnds.{ended_halted, ended_some}
use Rattle.run_command.proofs.lemmas.RunsOne.{halted_projects, prepared_projects, prepared_takes}
use Rattle.tool_frame.specs.Seen.{Seen, seen_by}
use Rattle.aidl_outside.proofs.lemmas.Telling.{tells}
use Rattle.tool_frame.specs.Exit.{number_of}
use Rattle.run_command.proofs.command.run.Goals as goal

pub returns-in-Ok-clause-ends : goal.returns-in-Ok-clause-ends
returns-in-Ok-clause-ends g c =
    let asked = c.args.asked in
    let r = c.in-Ok.run' in
    ended_some _ (RunTakes asked.profile asked.trace asked.client.now asked.server.now asked.calls.now) _ _ c.in-Ok.ensures.unchanged
    (λ course. course ≡ run_course asked.profile r.client.decls r.server.decls asked.trace r.text.items) (number_of c.run_both.result) c.in-Ok.ensures.cause
    (tells _ (λ files. IsPrepared asked.client.now asked.server.now asked.calls.now files r) _
    (λ files is. prepared_takes asked.profile asked.trace asked.client.now asked.server.now asked.calls.now files r is) c.in-Ok.ensures.said)
    c.run_both.ensures.ran

pub returns-in-Ok-clause-projected : goal.returns-in-Ok-clause-projected
returns-in-Ok-clause-projected g c =
    let asked = c.args.asked in
    let r = c.in-Ok.run' in
    let before : Seen = seen_by g.S.Store.kept g.S.Store.fault_record g.K.Sink.told g.K.Sink.fault_record g.L.Link.log g.L.Link.is_faithful g.L.Link.fault_record c.args.store.now c.args.sink.now c.args.link.now in
    let now : Seen = seen_by g.S.Store.kept g.S.Store.fault_record g.K.Sink.told g.K.Sink.fault_record g.L.Link.log g.L.Link.is_faithful g.L.Link.fault_record c.prepare.new.store c.run_both.new.sink c.run_both.new.link in
    tells (g.S.Store.kept c.args.store.now) _ (ProjectsChecked asked.profile asked.trace asked.client.now asked.server.now asked.calls.now before now (number_of c.run_both.result))
    (λ files is. prepared_projects asked.profile asked.trace asked.client.now asked.server.now asked.calls.now before now (number_of c.run_both.result) files r is c.run_both.ensures.projected)
    c.in-Ok.ensures.said

pub returns-in-Err-clause-ends : goal.returns-in-Err-clause-ends
returns-in-Err-clause-ends g c =
    let asked = c.args.asked in
    let before : Seen = seen_by g.S.Store.kept g.S.Store.fault_record g.K.Sink.told g.K.Sink.fault_record g.L.Link.log g.L.Link.is_faithful g.L.Link.fault_record c.args.store.now c.args.sink.now c.args.link.now in
    ended_halted _ (RunTakes asked.profile asked.trace asked.client.now asked.server.now asked.calls.now) before _ _ _ _ (IsPrepared asked.client.now asked.server.now asked.calls.now)
    (IsUnprepared asked.client.now asked.server.now asked.calls.now) (number_of c.end.result) c.in-Err.halt c.in-Err.ensures (λ files a said. said.0 asked.profile asked.trace) c.end.ensures

pub returns-in-Err-clause-projected : goal.returns-in-Err-clause-projected
returns-in-Err-clause-projected g c =
    let asked = c.args.asked in
    let before : Seen = seen_by g.S.Store.kept g.S.Store.fault_record g.K.Sink.told g.K.Sink.fault_record g.L.Link.log g.L.Link.is_faithful g.L.Link.fault_record c.args.store.now c.args.sink.now c.args.link.now in
    let now : Seen = seen_by g.S.Store.kept g.S.Store.fault_record g.K.Sink.told g.K.Sink.fault_record g.L.Link.log g.L.Link.is_faithful g.L.Link.fault_record c.prepare.new.store c.end.new.sink c.args.link.now in
    halted_projects asked.profile asked.trace asked.client.now asked.server.now asked.calls.now before now _ _ _ (number_of c.end.result) c.in-Err.halt c.in-Err.ensures c.end.ensures
