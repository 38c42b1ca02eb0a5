use Rattle.std.proofs.Common.{List, sym, subst, arith}
use Rattle.aidl_schema.specs.declared.schema.Decl.{Decl}
use Rattle.run_command.specs.CallLines.{lines_of}
use Rattle.run_command.specs.Projected.{Projects, projected_text}
use Rattle.run_command.specs.Running.{lines_course}
use Rattle.tool_frame.specs.Exit.{number_of}
use Rattle.tool_frame.specs.Seen.{Seen}
use Rattle.tool_frame.specs.Courses.{RanCourse, seen_alone}
use Rattle.wire_model.specs.Outcome.{SameWays}
use Rattle.tool_frame.proofs.lemmas.Courses.{ran_none}
use Rattle.tool_frame.proofs.lemmas.Endings.{not_verdict}
use Rattle.run_command.proofs.running.run_judged.Goals as goal

pub run_lines-requires : goal.run_lines-requires
run_lines-requires g c =
    let s = c.args.session.now in
    subst (λ (A : List Decl). SameWays A c.new-server.result) (sym c.new-client.ensures)
    (subst (λ (B : List Decl). SameWays s.client.now.decls B) (sym c.new-server.ensures) (c.law_ways.ensures c.requires))

pub returns-in-Ok-clause-ran : goal.returns-in-Ok-clause-ran
returns-in-Ok-clause-ran g c =
    let s = c.args.session.now in
    let before : Seen = seen_alone g.K.Sink.told g.K.Sink.fault_record g.L.Link.log g.L.Link.is_faithful g.L.Link.fault_record c.args.sink.now c.args.link.now in
    let after : Seen = seen_alone g.K.Sink.told g.K.Sink.fault_record g.L.Link.log g.L.Link.is_faithful g.L.Link.fault_record c.run_lines.new.sink c.run_lines.new.link in
    subst (λ (A : List Decl). RanCourse (lines_course s.profile A s.server.now.decls s.trace 1 (lines_of c.args.calls.now)) before after (number_of c.run_lines.result)) c.new-client.ensures
    (subst (λ (B : List Decl). RanCourse (lines_course s.profile c.new-client.result B s.trace 1 (lines_of c.args.calls.now)) before after (number_of c.run_lines.result)) c.new-server.ensures c.run_lines.ensures.ran)

pub returns-in-Ok-clause-projected : goal.returns-in-Ok-clause-projected
returns-in-Ok-clause-projected g c =
    let s = c.args.session.now in
    let before : Seen = seen_alone g.K.Sink.told g.K.Sink.fault_record g.L.Link.log g.L.Link.is_faithful g.L.Link.fault_record c.args.sink.now c.args.link.now in
    let after : Seen = seen_alone g.K.Sink.told g.K.Sink.fault_record g.L.Link.log g.L.Link.is_faithful g.L.Link.fault_record c.run_lines.new.sink c.run_lines.new.link in
    subst (λ (A : List Decl). Projects A s.server.now.decls (projected_text s.profile A s.server.now.decls s.trace 1 (lines_of c.args.calls.now)) before after (number_of c.run_lines.result)) c.new-client.ensures
    (subst (λ (B : List Decl). Projects c.new-client.result B (projected_text s.profile c.new-client.result B s.trace 1 (lines_of c.args.calls.now)) before after (number_of c.run_lines.result)) c.new-server.ensures c.run_lines.ensures.projected)

pub returns-in-Err-clause-ran : goal.returns-in-Err-clause-ran
returns-in-Err-clause-ran g c =
    let s = c.args.session.now in
    ran_none (lines_course s.profile s.client.now.decls s.server.now.decls s.trace 1 (lines_of c.args.calls.now))
    (seen_alone g.K.Sink.told g.K.Sink.fault_record g.L.Link.log g.L.Link.is_faithful g.L.Link.fault_record c.args.sink.now c.args.link.now)

pub returns-in-Err-clause-projected : goal.returns-in-Err-clause-projected
returns-in-Err-clause-projected g c = λ one faithful verdict. absurd (not_verdict 5 (omega arith) (omega arith) verdict)
