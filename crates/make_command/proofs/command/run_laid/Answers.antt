use Rattle.std.proofs.Common.{ℕ, List, refl, subst, inl}
use Rattle.make_command.specs.steps.Laying.{TakesLaid}
use Rattle.run_command.specs.steps.Running.{TakesEarly}
use Rattle.run_command.proofs.lemmas.Takes.{ran_also}
use Rattle.make_command.specs.Making.{make_course}
use Rattle.tool_frame.specs.Courses.{RanCourse, seen_alone}
use Rattle.tool_frame.specs.Exit.{number_of}
use Rattle.tool_frame.specs.Seen.{Seen}
use Rattle.make_command.proofs.command.run_laid.Goals as goal

pub returns-in-Ok : goal.returns-in-Ok
returns-in-Ok g c =
    let before : Seen = seen_alone g.K.Sink.told g.K.Sink.fault_record g.L.Link.log g.L.Link.is_faithful g.L.Link.fault_record c.args.sink.now c.args.link.now in
    let now : Seen = seen_alone g.K.Sink.told g.K.Sink.fault_record g.L.Link.log g.L.Link.is_faithful g.L.Link.fault_record c.run_made.new.sink c.run_made.new.link in
    inl (
      make_course c.in-Ok.run'.server.decls c.in-Ok.run'.client.decls c.in-Ok.run'.text.items,
      c.in-Ok.ensures (make_course c.in-Ok.run'.server.decls c.in-Ok.run'.client.decls c.in-Ok.run'.text.items) refl,
      subst (λ (t : List ℕ). RanCourse (make_course c.in-Ok.run'.server.decls c.in-Ok.run'.client.decls t) before now (number_of c.run_made.result)) c.as_slice-calls.ensures.value c.run_made.ensures,
    )

pub returns-in-Err : goal.returns-in-Err
returns-in-Err g c = ran_also (TakesEarly c.in-Err.early) (TakesLaid c.args.laid) _ _ (number_of c.print_early.result) c.in-Err.ensures c.print_early.ensures
