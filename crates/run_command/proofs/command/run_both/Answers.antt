use Rattle.std.proofs.Common.{◌≡◌, ℕ, List, subst, refl, inl}
use Rattle.aidl_schema.specs.declared.schema.Decl.{Decl}
use Rattle.run_command.specs.CallLines.{lines_of}
use Rattle.run_command.specs.Projected.{Projects, projected_text}
use Rattle.run_command.specs.Running.{run_course}
use Rattle.tool_frame.specs.Exit.{number_of}
use Rattle.tool_frame.specs.Seen.{Seen}
use Rattle.tool_frame.specs.Courses.{seen_alone}
use Rattle.run_command.specs.steps.Running.{RanSome}
use Rattle.run_command.proofs.command.run_both.Goals as goal

pub returns-clause-ran : goal.returns-clause-ran
returns-clause-ran g c =
    let before : Seen = seen_alone g.K.Sink.told g.K.Sink.fault_record g.L.Link.log g.L.Link.is_faithful g.L.Link.fault_record c.args.sink.now c.args.link.now in
    let now : Seen = seen_alone g.K.Sink.told g.K.Sink.fault_record g.L.Link.log g.L.Link.is_faithful g.L.Link.fault_record c.run_trees.new.sink c.run_trees.new.link in
    let A : List Decl = c.args.run.now.client.decls in
    let B : List Decl = c.args.run.now.server.decls in
    subst (λ (t : List ℕ). RanSome (λ course. course ≡ run_course c.args.profile A B c.args.trace t) before now (number_of c.run_trees.result)) c.as_slice-calls.ensures.value
    (inl (run_course c.args.profile A B c.args.trace c.as_slice-calls.result.now, refl, c.run_trees.ensures.ran))

pub returns-clause-projected : goal.returns-clause-projected
returns-clause-projected g c =
    let before : Seen = seen_alone g.K.Sink.told g.K.Sink.fault_record g.L.Link.log g.L.Link.is_faithful g.L.Link.fault_record c.args.sink.now c.args.link.now in
    let now : Seen = seen_alone g.K.Sink.told g.K.Sink.fault_record g.L.Link.log g.L.Link.is_faithful g.L.Link.fault_record c.run_trees.new.sink c.run_trees.new.link in
    let A : List Decl = c.args.run.now.client.decls in
    let B : List Decl = c.args.run.now.server.decls in
    let projects : Projects A B (projected_text c.args.profile A B c.args.trace 1 (lines_of c.args.run.now.text.items)) before now (number_of c.run_trees.result) =
    subst (λ (t : List ℕ). Projects A B (projected_text c.args.profile A B c.args.trace 1 (lines_of t)) before now (number_of c.run_trees.result)) c.as_slice-calls.ensures.value
    c.run_trees.ensures.projected in
    λ one faithful verdict.
    let put = projects one faithful verdict in
    (put.0, put.1, record { sent = c.law_call_none.ensures.sent one; answered = c.law_call_none.ensures.answered one; fits = c.law_script_fits.ensures })
