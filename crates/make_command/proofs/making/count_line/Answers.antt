use Rattle.std.proofs.Common.{List, Err, sym, subst}
use Rattle.aidl_base.specs.declared.profile.Profile.TheVariants.{Strict}
use Rattle.aidl_schema.specs.declared.schema.Decl.{Decl}
use Rattle.call_runner.specs.Runs.{RunCause, Stops}
use Rattle.call_runner.specs.declared.line.LineRun.{LineRun}
use Rattle.call_runner.specs.declared.line.RunFault.{RunFault}
use Rattle.call_scripts.specs.Calls.{CallData}
use Rattle.call_scripts.specs.Refusal.{Judged}
use Rattle.call_scripts.specs.Script.{script}
use Rattle.make_command.specs.Tally.{Counts, counted}
use Rattle.make_command.specs.steps.Steps.{with_link}
use Rattle.run_command.specs.Running.{After, line_course}
use Rattle.tool_frame.specs.Courses.{Went}
use Rattle.tool_frame.specs.Seen.{Seen}
use Rattle.run_command.proofs.lemmas.Lines.{line_link, line_memory, line_went}
use Rattle.make_command.proofs.Counting.{few_carried}
use Rattle.make_command.proofs.making.count_line.Goals as goal

pub with-requires-clause-parcels : goal.with-requires-clause-parcels
with-requires-clause-parcels g c = few_carried Strict c.args.client.now c.args.server.now _ c.in-Ok.run' c.in-Ok.ensures.line

pub returns-in-Ok-clause-counts : goal.returns-in-Ok-clause-counts
returns-in-Ok-clause-counts g c = λ others next.
    let A : List Decl = c.args.client.now in
    let B : List Decl = c.args.server.now in
    let meant : Judged CallData = script A B c.args.line.now in
    let after : After = λ carried methods out. next (counted c.args.tally carried out) in
    let before : Seen = with_link g.L.Link.log g.L.Link.is_faithful g.L.Link.fault_record others c.args.link.now in
    let now : Seen = with_link g.L.Link.log g.L.Link.is_faithful g.L.Link.fault_record others c.run_line.new.link in
    subst (λ (t : Counts). Went (line_course Strict A B after meant) (next t) before now) (sym c.with.ensures)
    (line_went Strict A B after meant before (g.L.Link.log c.run_line.new.link) (g.L.Link.is_faithful c.run_line.new.link) (g.L.Link.fault_record c.run_line.new.link) c.run_line.ensures.nature
    c.in-Ok.run' c.in-Ok.ensures.line c.in-Ok.ensures.log c.in-Ok.ensures.faithful c.in-Ok.ensures.cause)

pub returns-in-Err-LinkFault-clause-counts : goal.returns-in-Err-LinkFault-clause-counts
returns-in-Err-LinkFault-clause-counts g c = λ others next.
    let A : List Decl = c.args.client.now in
    let B : List Decl = c.args.server.now in
    let meant : Judged CallData = script A B c.args.line.now in
    let after : After = λ carried methods out. next (counted c.args.tally carried out) in
    let before : Seen = with_link g.L.Link.log g.L.Link.is_faithful g.L.Link.fault_record others c.args.link.now in
    line_link Strict A B after meant before (g.L.Link.log c.run_line.new.link) (g.L.Link.is_faithful c.run_line.new.link) (g.L.Link.fault_record c.run_line.new.link) c.run_line.ensures.nature
    (subst (λ (f : RunFault). Stops Strict A B meant before.is_faithful before.log (g.L.Link.log c.run_line.new.link) (g.L.Link.fault_record c.run_line.new.link) f) c.in-Err-LinkFault.field-0-is c.in-Err-LinkFault.ensures.stops)
    (subst (λ (f : RunFault). RunCause {T = LineRun} before.link_faults (g.L.Link.fault_record c.run_line.new.link) (Err f)) c.in-Err-LinkFault.field-0-is c.in-Err-LinkFault.ensures.cause)

pub returns-in-Err-OutOfMemory-clause-counts : goal.returns-in-Err-OutOfMemory-clause-counts
returns-in-Err-OutOfMemory-clause-counts g c = λ others next.
    let A : List Decl = c.args.client.now in
    let B : List Decl = c.args.server.now in
    let meant : Judged CallData = script A B c.args.line.now in
    let after : After = λ carried methods out. next (counted c.args.tally carried out) in
    let before : Seen = with_link g.L.Link.log g.L.Link.is_faithful g.L.Link.fault_record others c.args.link.now in
    line_memory Strict A B after meant before (g.L.Link.log c.run_line.new.link) (g.L.Link.is_faithful c.run_line.new.link) (g.L.Link.fault_record c.run_line.new.link) c.run_line.ensures.nature
    (subst (λ (f : RunFault). Stops Strict A B meant before.is_faithful before.log (g.L.Link.log c.run_line.new.link) (g.L.Link.fault_record c.run_line.new.link) f) c.in-Err-OutOfMemory.field-0-is c.in-Err-OutOfMemory.ensures.stops)
    (subst (λ (f : RunFault). RunCause {T = LineRun} before.link_faults (g.L.Link.fault_record c.run_line.new.link) (Err f)) c.in-Err-OutOfMemory.field-0-is c.in-Err-OutOfMemory.ensures.cause)
