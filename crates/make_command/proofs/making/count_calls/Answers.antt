use Rattle.std.proofs.Common.{List, inr, sym, subst}
use Rattle.aidl_schema.specs.declared.schema.Decl.{Decl}
use Rattle.make_command.specs.Making.{counted_course}
use Rattle.make_command.specs.Tally.{nothing}
use Rattle.make_command.specs.steps.Steps.{CountsTo, with_link}
use Rattle.run_command.specs.CallLines.{lines_of}
use Rattle.tool_frame.specs.Seen.{Seen}
use Rattle.wire_model.specs.Outcome.{SameWays}
use Rattle.tool_frame.proofs.lemmas.Courses.{ran_none}
use Rattle.make_command.proofs.making.count_calls.Goals as goal

pub count_lines-requires : goal.count_lines-requires
count_lines-requires g c =
    subst (λ (A : List Decl). SameWays A c.new-server.result) (sym c.new-client.ensures)
    (subst (λ (B : List Decl). SameWays c.args.new.now.decls B) (sym c.new-server.ensures) (c.law_ways.ensures (inr c.requires)))

pub returns-in-Ok : goal.returns-in-Ok
returns-in-Ok g c = λ others last.
    let before : Seen = with_link g.L.Link.log g.L.Link.is_faithful g.L.Link.fault_record others c.args.link.now in
    let now : Seen = with_link g.L.Link.log g.L.Link.is_faithful g.L.Link.fault_record others c.count_lines.new.link in
    subst (λ (B : List Decl). CountsTo (counted_course B c.args.old.now.decls last nothing (lines_of c.args.calls.now)) last before now c.count_lines.result) c.new-client.ensures
    (subst (λ (A : List Decl). CountsTo (counted_course c.new-client.result A last nothing (lines_of c.args.calls.now)) last before now c.count_lines.result) c.new-server.ensures
    (c.count_lines.ensures others last))

pub returns-in-Err : goal.returns-in-Err
returns-in-Err g c = λ others last.
    ran_none (counted_course c.args.new.now.decls c.args.old.now.decls last nothing (lines_of c.args.calls.now)) (with_link g.L.Link.log g.L.Link.is_faithful g.L.Link.fault_record others c.args.link.now)
