use Rattle.std.proofs.Common.{◌≡◌, List, Option, Some, sym, subst}
use Rattle.aidl_schema.specs.Broken.{broken}
use Rattle.aidl_schema.specs.declared.schema.Decl.{Decl}
use Rattle.make_command.specs.Making.{by_breaks, counted_course, made, make_course}
use Rattle.make_command.specs.Tally.{nothing}
use Rattle.run_command.specs.steps.Steps.{course_by}
use Rattle.run_command.specs.CallLines.{lines_of}
use Rattle.tool_frame.specs.Course.{Course, at_once}
use Rattle.tool_frame.specs.Courses.{RanCourse, seen_alone}
use Rattle.tool_frame.specs.Exit.{number_of}
use Rattle.tool_frame.specs.Results.{printed}
use Rattle.tool_frame.specs.Seen.{Seen}
use Rattle.tool_frame.specs.declared.printed.Printed.{Printed}
use Rattle.tool_frame.proofs.lemmas.Courses.{ran_none, ran_printed}
use Rattle.make_command.proofs.making.run_made.Goals as goal

pub run_calls-requires : goal.run_calls-requires
run_calls-requires g c = c.in-Ok-None.ensures.follows c.in-Ok-None.field-0-is

pub returns-in-Ok-None : goal.returns-in-Ok-None
returns-in-Ok-None g c =
    let A : List Decl = c.args.old.now.decls in
    let B : List Decl = c.args.new.now.decls in
    let start : Seen = seen_alone g.K.Sink.told g.K.Sink.fault_record g.L.Link.log g.L.Link.is_faithful g.L.Link.fault_record c.args.sink.now c.args.link.now in
    let now : Seen = seen_alone g.K.Sink.told g.K.Sink.fault_record g.L.Link.log g.L.Link.is_faithful g.L.Link.fault_record c.run_calls.new.sink c.run_calls.new.link in
    let course : (rest : Course) → by_breaks (broken A B) rest ≡ rest =
    subst (λ (p : Option Printed). (rest : Course) → by_breaks (broken A B) rest ≡ course_by p rest) c.in-Ok-None.field-0-is c.in-Ok-None.ensures.course in
    subst (λ (x : Course). RanCourse x start now (number_of c.run_calls.result)) (sym (course (counted_course B A (λ t. at_once (made A B t)) nothing (lines_of c.args.calls.now)))) c.run_calls.ensures

pub returns-in-Ok-Some : goal.returns-in-Ok-Some
returns-in-Ok-Some g c =
    let A : List Decl = c.args.old.now.decls in
    let B : List Decl = c.args.new.now.decls in
    let start : Seen = seen_alone g.K.Sink.told g.K.Sink.fault_record g.L.Link.log g.L.Link.is_faithful g.L.Link.fault_record c.args.sink.now c.args.link.now in
    let now : Seen = seen_alone g.K.Sink.told g.K.Sink.fault_record g.L.Link.log g.L.Link.is_faithful g.L.Link.fault_record c.print.new.sink c.args.link.now in
    let course : (rest : Course) → by_breaks (broken A B) rest ≡ course_by (Some c.in-Ok-Some.printed) rest =
    subst (λ (p : Option Printed). (rest : Course) → by_breaks (broken A B) rest ≡ course_by p rest) c.in-Ok-Some.field-0-is c.in-Ok-Some.ensures.course in
    subst (λ (x : Course). RanCourse x start now (number_of c.print.result)) (sym (course (counted_course B A (λ t. at_once (made A B t)) nothing (lines_of c.args.calls.now))))
    (ran_printed start (g.K.Sink.told c.print.new.sink) (g.K.Sink.fault_record c.print.new.sink) (printed c.in-Ok-Some.printed) (number_of c.print.result) c.print.ensures)

pub returns-in-Err : goal.returns-in-Err
returns-in-Err g c =
    ran_none (make_course c.args.old.now.decls c.args.new.now.decls c.args.calls.now)
    (seen_alone g.K.Sink.told g.K.Sink.fault_record g.L.Link.log g.L.Link.is_faithful g.L.Link.fault_record c.args.sink.now c.args.link.now)
