use Rattle.std.proofs.Common.{List, Err, refl, subst, arith}
use Rattle.aidl_schema.specs.declared.schema.Decl.{Decl}
use Rattle.call_scripts.specs.Refusal.{Judged}
use Rattle.call_runner.specs.declared.line.LineRun.{LineRun}
use Rattle.call_runner.specs.declared.line.RunFault.{RunFault}
use Rattle.call_runner.specs.Runs.{RunCause, Stops}
use Rattle.call_scripts.specs.Calls.{CallData}
use Rattle.call_scripts.specs.Script.{script}
use Rattle.run_command.specs.Running.{puts}
use Rattle.tool_frame.specs.Seen.{Seen}
use Rattle.tool_frame.specs.Courses.{seen_alone}
use Rattle.tool_frame.proofs.lemmas.Endings.{not_verdict}
use Rattle.run_command.proofs.lemmas.Lines.{line_link, line_memory, line_steps}
use Rattle.run_command.proofs.Projecting.{carried_is, put_projected, put_stops}
use Rattle.run_command.proofs.running.run_next.Goals as goal

pub put_line-requires : goal.put_line-requires
put_line-requires g c = record {
  client = c.requires.client;
  server = c.requires.server;
  typed = c.in-Ok.ensures.typed;
}

pub returns-in-Ok : goal.returns-in-Ok
returns-in-Ok g c =
    let s = c.args.session.now in
    let A : List Decl = s.client in
    let B : List Decl = s.server in
    let meant : Judged CallData = script A B c.args.line.now.bytes.now in
    let before : Seen = seen_alone g.K.Sink.told g.K.Sink.fault_record g.L.Link.log g.L.Link.is_faithful g.L.Link.fault_record c.args.sink.now c.args.link.now in
    let run : LineRun = c.in-Ok.run' in
    record {
      same = c.put_line.ensures.same;
      steps = λ next. line_steps s.profile A B s.trace c.args.line.now.number next meant before (g.L.Link.log c.run_line.new.link) (g.L.Link.is_faithful c.run_line.new.link)
          (g.L.Link.fault_record c.run_line.new.link) c.run_line.ensures.nature run (g.K.Sink.told c.put_line.new.sink) (g.K.Sink.fault_record c.put_line.new.sink) c.put_line.result
          c.in-Ok.ensures.line c.in-Ok.ensures.log c.in-Ok.ensures.faithful c.in-Ok.ensures.cause c.put_line.ensures.put;
      exits = put_stops _ _ _ _ _ c.put_line.result c.put_line.ensures.put;
      projected = λ one faithful. put_projected A B c.args.line.now.number s.profile s.trace meant run.carried run.methods run.out _ _ _ _ c.put_line.result c.put_line.ensures.put
          (carried_is s.profile A B meant run c.in-Ok.ensures.line (c.in-Ok.ensures.faithful faithful)) c.in-Ok.ensures.typed (c.in-Ok.ensures.outcome one faithful) (c.in-Ok.ensures.named one faithful);
    }

pub returns-in-Err-LinkFault : goal.returns-in-Err-LinkFault
returns-in-Err-LinkFault g c =
    let s = c.args.session.now in
    let A : List Decl = s.client in
    let B : List Decl = s.server in
    let meant : Judged CallData = script A B c.args.line.now.bytes.now in
    let before : Seen = seen_alone g.K.Sink.told g.K.Sink.fault_record g.L.Link.log g.L.Link.is_faithful g.L.Link.fault_record c.args.sink.now c.args.link.now in
    record {
      same = refl;
      steps = λ next. line_link s.profile A B (puts A B s.trace c.args.line.now.number next) meant before (g.L.Link.log c.run_line.new.link) (g.L.Link.is_faithful c.run_line.new.link)
          (g.L.Link.fault_record c.run_line.new.link) c.run_line.ensures.nature
          (subst (λ (f : RunFault). Stops s.profile A B meant before.is_faithful before.log (g.L.Link.log c.run_line.new.link) (g.L.Link.fault_record c.run_line.new.link) f) c.in-Err-LinkFault.field-0-is c.in-Err-LinkFault.ensures.stops)
          (subst (λ (f : RunFault). RunCause {T = LineRun} before.link_faults (g.L.Link.fault_record c.run_line.new.link) (Err f)) c.in-Err-LinkFault.field-0-is c.in-Err-LinkFault.ensures.cause);
      exits = λ verdict. not_verdict 6 (omega arith) (omega arith) verdict;
      projected = λ one faithful. tt;
    }

pub returns-in-Err-OutOfMemory : goal.returns-in-Err-OutOfMemory
returns-in-Err-OutOfMemory g c =
    let s = c.args.session.now in
    let A : List Decl = s.client in
    let B : List Decl = s.server in
    let meant : Judged CallData = script A B c.args.line.now.bytes.now in
    let before : Seen = seen_alone g.K.Sink.told g.K.Sink.fault_record g.L.Link.log g.L.Link.is_faithful g.L.Link.fault_record c.args.sink.now c.args.link.now in
    record {
      same = refl;
      steps = λ next. line_memory s.profile A B (puts A B s.trace c.args.line.now.number next) meant before (g.L.Link.log c.run_line.new.link) (g.L.Link.is_faithful c.run_line.new.link)
          (g.L.Link.fault_record c.run_line.new.link) c.run_line.ensures.nature
          (subst (λ (f : RunFault). Stops s.profile A B meant before.is_faithful before.log (g.L.Link.log c.run_line.new.link) (g.L.Link.fault_record c.run_line.new.link) f) c.in-Err-OutOfMemory.field-0-is c.in-Err-OutOfMemory.ensures.stops)
          (subst (λ (f : RunFault). RunCause {T = LineRun} before.link_faults (g.L.Link.fault_record c.run_line.new.link) (Err f)) c.in-Err-OutOfMemory.field-0-is c.in-Err-OutOfMemory.ensures.cause);
      exits = λ verdict. not_verdict 5 (omega arith) (omega arith) verdict;
      projected = λ one faithful. tt;
    }
