use Rattle.std.proofs.Common.{◌≡◌, List, Option, Some, sym, subst, arith}
use Rattle.aidl_schema.specs.declared.schema.Decl.{Decl}
use Rattle.aidl_schema.specs.Broken.{broken}
use Rattle.run_command.specs.CallLines.{lines_of}
use Rattle.run_command.specs.Running.{judged_course, lines_course, run_course}
use Rattle.run_command.specs.steps.Steps.{course_by}
use Rattle.tool_frame.specs.Course.{Course}
use Rattle.tool_frame.specs.Exit.{number_of}
use Rattle.tool_frame.specs.Seen.{Seen}
use Rattle.tool_frame.specs.declared.printed.Printed.{Printed}
use Rattle.tool_frame.specs.Courses.{RanCourse, seen_alone}
use Rattle.tool_frame.specs.Results.{printed}
use Rattle.tool_frame.proofs.lemmas.Courses.{ran_none, ran_printed}
use Rattle.tool_frame.proofs.lemmas.Endings.{not_verdict}
use Rattle.run_command.proofs.Projecting.{never_printed}
use Rattle.run_command.proofs.running.run_trees.Goals as goal

pub run_judged-requires : goal.run_judged-requires
run_judged-requires g c = c.in-Ok-None.ensures.follows c.in-Ok-None.field-0-is

pub returns-in-Ok-None-clause-ran : goal.returns-in-Ok-None-clause-ran
returns-in-Ok-None-clause-ran g c =
    let s = c.args.session.now in
    let A : List Decl = s.client.now.decls in
    let B : List Decl = s.server.now.decls in
    let start : Seen = seen_alone g.K.Sink.told g.K.Sink.fault_record g.L.Link.log g.L.Link.is_faithful g.L.Link.fault_record c.args.sink.now c.args.link.now in
    let now : Seen = seen_alone g.K.Sink.told g.K.Sink.fault_record g.L.Link.log g.L.Link.is_faithful g.L.Link.fault_record c.run_judged.new.sink c.run_judged.new.link in
    let lines : Course = lines_course s.profile A B s.trace 1 (lines_of c.args.calls.now) in
    let course : (rest : Course) → judged_course (broken A B) (broken B A) rest ≡ rest =
    subst (λ (p : Option Printed). (rest : Course) → judged_course (broken A B) (broken B A) rest ≡ course_by p rest) c.in-Ok-None.field-0-is c.in-Ok-None.ensures.course in
    subst (λ (x : Course). RanCourse x start now (number_of c.run_judged.result)) (sym (course lines)) c.run_judged.ensures.ran

pub returns-in-Ok-None-clause-projected : goal.returns-in-Ok-None-clause-projected
returns-in-Ok-None-clause-projected g c = c.run_judged.ensures.projected

pub returns-in-Ok-Some-clause-ran : goal.returns-in-Ok-Some-clause-ran
returns-in-Ok-Some-clause-ran g c =
    let s = c.args.session.now in
    let A : List Decl = s.client.now.decls in
    let B : List Decl = s.server.now.decls in
    let start : Seen = seen_alone g.K.Sink.told g.K.Sink.fault_record g.L.Link.log g.L.Link.is_faithful g.L.Link.fault_record c.args.sink.now c.args.link.now in
    let now : Seen = seen_alone g.K.Sink.told g.K.Sink.fault_record g.L.Link.log g.L.Link.is_faithful g.L.Link.fault_record c.print.new.sink c.args.link.now in
    let lines : Course = lines_course s.profile A B s.trace 1 (lines_of c.args.calls.now) in
    let course : (rest : Course) → judged_course (broken A B) (broken B A) rest ≡ course_by (Some c.in-Ok-Some.printed) rest =
    subst (λ (p : Option Printed). (rest : Course) → judged_course (broken A B) (broken B A) rest ≡ course_by p rest) c.in-Ok-Some.field-0-is c.in-Ok-Some.ensures.course in
    subst (λ (x : Course). RanCourse x start now (number_of c.print.result)) (sym (course lines))
    (ran_printed start (g.K.Sink.told c.print.new.sink) (g.K.Sink.fault_record c.print.new.sink) (printed c.in-Ok-Some.printed) (number_of c.print.result) c.print.ensures)

pub returns-in-Ok-Some-clause-projected : goal.returns-in-Ok-Some-clause-projected
returns-in-Ok-Some-clause-projected g c =
    let s = c.args.session.now in
    λ one faithful verdict.
    let A : List Decl = s.client.now.decls in
    let B : List Decl = s.server.now.decls in
    let course : (rest : Course) → judged_course (broken A B) (broken B A) rest ≡ course_by (Some c.in-Ok-Some.printed) rest =
    subst (λ (p : Option Printed). (rest : Course) → judged_course (broken A B) (broken B A) rest ≡ course_by p rest) c.in-Ok-Some.field-0-is c.in-Ok-Some.ensures.course in
    absurd (never_printed (broken A B) (broken B A) c.in-Ok-Some.printed one course)

pub returns-in-Err-clause-ran : goal.returns-in-Err-clause-ran
returns-in-Err-clause-ran g c =
    let s = c.args.session.now in
    ran_none (run_course s.profile s.client.now.decls s.server.now.decls s.trace c.args.calls.now)
    (seen_alone g.K.Sink.told g.K.Sink.fault_record g.L.Link.log g.L.Link.is_faithful g.L.Link.fault_record c.args.sink.now c.args.link.now)

pub returns-in-Err-clause-projected : goal.returns-in-Err-clause-projected
returns-in-Err-clause-projected g c = λ one faithful verdict. absurd (not_verdict 5 (omega arith) (omega arith) verdict)
