use Rattle.std.proofs.Common.{List}
use Rattle.aidl_schema.specs.declared.schema.Decl.{Decl}
use Rattle.make_command.specs.Making.{counted_course, made}
use Rattle.make_command.specs.Tally.{Counts, nothing}
use Rattle.run_command.specs.CallLines.{lines_of}
use Rattle.tool_frame.specs.Course.{Course, at_once}
use Rattle.tool_frame.specs.Courses.{seen_alone}
use Rattle.tool_frame.specs.Exit.{number_of}
use Rattle.tool_frame.specs.Seen.{Seen}
use Rattle.tool_frame.proofs.lemmas.Courses.{went_ended}
use Rattle.make_command.proofs.Counting.{gave}
use Rattle.make_command.proofs.making.run_calls.Goals as goal

pub returns-in-Ok : goal.returns-in-Ok
returns-in-Ok g c =
    let A : List Decl = c.args.old.now.decls in
    let B : List Decl = c.args.new.now.decls in
    let last : Counts → Course = λ t. at_once (made A B t) in
    let start : Seen = seen_alone g.K.Sink.told g.K.Sink.fault_record g.L.Link.log g.L.Link.is_faithful g.L.Link.fault_record c.args.sink.now c.args.link.now in
    let middle : Seen = seen_alone g.K.Sink.told g.K.Sink.fault_record g.L.Link.log g.L.Link.is_faithful g.L.Link.fault_record c.args.sink.now c.count_calls.new.link in
    let now : Seen = seen_alone g.K.Sink.told g.K.Sink.fault_record g.L.Link.log g.L.Link.is_faithful g.L.Link.fault_record c.print.new.sink c.count_calls.new.link in
    went_ended (counted_course B A last nothing (lines_of c.args.calls.now)) (last c.in-Ok.tally) start middle (c.in-Ok.ensures start last) now (number_of c.print.result)
    (gave (made A B c.in-Ok.tally) middle (g.K.Sink.told c.print.new.sink) (g.K.Sink.fault_record c.print.new.sink) (number_of c.print.result) c.made_answer.result c.made_answer.ensures c.print.ensures)

pub returns-in-Err : goal.returns-in-Err
returns-in-Err g c =
    let A : List Decl = c.args.old.now.decls in
    let B : List Decl = c.args.new.now.decls in
    let last : Counts → Course = λ t. at_once (made A B t) in
    c.in-Err.ensures (seen_alone g.K.Sink.told g.K.Sink.fault_record g.L.Link.log g.L.Link.is_faithful g.L.Link.fault_record c.args.sink.now c.args.link.now) last
