use Rattle.std.proofs.Common.{◌≡◌, ℕ, ◌+◌, ◌==◌, true, false, List, length, refl, sym, ap, ◌∙◌, subst, arith}
use Rattle.aidl_schema.specs.declared.schema.Decl.{Decl}
use Rattle.run_command.specs.CallLines.{lines_of}
use Rattle.run_command.specs.Projected.{projected_text}
use Rattle.run_command.specs.Running.{lines_course}
use Rattle.run_command.specs.declared.printers.Printers.{Printers}
use Rattle.tool_frame.specs.Course.{Course}
use Rattle.tool_frame.specs.Exit.{number_of}
use Rattle.tool_frame.specs.Seen.{Seen}
use Rattle.tool_frame.specs.Courses.{seen_alone}
use Rattle.tool_frame.proofs.lemmas.Courses.{went_none}
use Rattle.run_command.proofs.lemmas.Lines.{empty_list, lines_ended, next_ended, next_went, still_faithful}
use Rattle.run_command.proofs.Projecting.{lines_added, next_added}
use Rattle.run_command.proofs.running.run_lines.Goals as goal

pub cut-requires : goal.cut-requires
cut-requires g c = λ e.
    let none : (length c.loop-rest.rest.now == 0) ≡ true = subst (λ (xs : List ℕ). (length xs == 0) ≡ true) (sym e) refl in
    let never : false ≡ true = sym c.loop-rest-test.true ∙ c.is_empty.ensures ∙ none in
    cc

pub run_next-requires : goal.run_next-requires
run_next-requires g c = record {
  ways = c.requires;
  client = c.loop-rest.invariant.client;
  server = c.loop-rest.invariant.server;
}

pub loop-rest-smaller : goal.loop-rest-smaller
loop-rest-smaller g c = omega arith

pub loop-rest-init : goal.loop-rest-init
loop-rest-init g c =
    let s = c.args.session.now in
    let A : List Decl = s.client in
    let B : List Decl = s.server in
    let whole : Course = lines_course s.profile A B s.trace 1 (lines_of c.args.calls.now) in
    let start : Seen = seen_alone g.K.Sink.told g.K.Sink.fault_record g.L.Link.log g.L.Link.is_faithful g.L.Link.fault_record c.args.sink.now c.args.link.now in
    record {
      went = went_none whole start;
      completes = λ one faithful later more. more;
      client = c.new.ensures ∙ c.schema.ensures;
      server = c.new-2.ensures ∙ c.schema-2.ensures;
      few = omega arith;
    }

pub returns-in-Err-clause-ran : goal.returns-in-Err-clause-ran
returns-in-Err-clause-ran g c =
    let s = c.args.session.now in
    let A : List Decl = s.client in
    let B : List Decl = s.server in
    let whole : Course = lines_course s.profile A B s.trace 1 (lines_of c.args.calls.now) in
    let start : Seen = seen_alone g.K.Sink.told g.K.Sink.fault_record g.L.Link.log g.L.Link.is_faithful g.L.Link.fault_record c.args.sink.now c.args.link.now in
    let now : Seen = seen_alone g.K.Sink.told g.K.Sink.fault_record g.L.Link.log g.L.Link.is_faithful g.L.Link.fault_record c.loop-rest.sink c.loop-rest.link in
    let later : Seen = seen_alone g.K.Sink.told g.K.Sink.fault_record g.L.Link.log g.L.Link.is_faithful g.L.Link.fault_record c.run_next.new.sink c.run_next.new.link in
    let left : Course = lines_course s.profile A B s.trace (c.loop-rest.number + 1) (lines_of c.cut.result.1.now) in
    next_ended s.profile A B s.trace c.loop-rest.number whole c.loop-rest.rest.now c.cut.result.0.now c.cut.result.1.now start now later c.cut.ensures.lines c.loop-rest.invariant.went (number_of c.in-Err.exit) (c.in-Err.ensures.steps left)

pub returns-in-Err-clause-projected : goal.returns-in-Err-clause-projected
returns-in-Err-clause-projected g c =
    λ one faithful verdict. absurd (c.in-Err.ensures.exits verdict)

pub returns-then-is_empty-clause-ran : goal.returns-then-is_empty-clause-ran
returns-then-is_empty-clause-ran g c =
    let s = c.args.session.now in
    let A : List Decl = s.client in
    let B : List Decl = s.server in
    let whole : Course = lines_course s.profile A B s.trace 1 (lines_of c.args.calls.now) in
    let start : Seen = seen_alone g.K.Sink.told g.K.Sink.fault_record g.L.Link.log g.L.Link.is_faithful g.L.Link.fault_record c.args.sink.now c.args.link.now in
    let now : Seen = seen_alone g.K.Sink.told g.K.Sink.fault_record g.L.Link.log g.L.Link.is_faithful g.L.Link.fault_record c.loop-rest.sink c.loop-rest.link in
    let later : Seen = seen_alone g.K.Sink.told g.K.Sink.fault_record g.L.Link.log g.L.Link.is_faithful g.L.Link.fault_record c.run_next.new.sink c.run_next.new.link in
    let left : Course = lines_course s.profile A B s.trace (c.loop-rest.number + 1) (lines_of c.cut.result.1.now) in
    lines_ended s.profile A B s.trace (c.loop-rest.number + 1) whole c.cut.result.1.now start later
    (empty_list c.cut.result.1.now c.is_empty-in-loop-rest.result c.is_empty-in-loop-rest.ensures c.if-is_empty.true)
    (next_went s.profile A B s.trace c.loop-rest.number whole c.loop-rest.rest.now c.cut.result.0.now c.cut.result.1.now start now later c.cut.ensures.lines c.loop-rest.invariant.went (c.in_default.ensures.steps left))

pub returns-then-is_empty-clause-projected : goal.returns-then-is_empty-clause-projected
returns-then-is_empty-clause-projected g c =
    let s = c.args.session.now in
    let A : List Decl = s.client in
    let B : List Decl = s.server in
    λ one faithful verdict. (
      refl,
      lines_added s.profile A B s.trace (c.loop-rest.number + 1) c.cut.result.1.now (projected_text s.profile A B s.trace 1 (lines_of c.args.calls.now)) (g.K.Sink.told c.args.sink.now)
          (g.K.Sink.told c.run_next.new.sink) (empty_list c.cut.result.1.now c.is_empty-in-loop-rest.result c.is_empty-in-loop-rest.ensures c.if-is_empty.true)
          (next_added s.profile A B s.trace c.loop-rest.number c.loop-rest.rest.now c.cut.result.0.now c.cut.result.1.now (projected_text s.profile A B s.trace 1 (lines_of c.args.calls.now)) (g.K.Sink.told c.args.sink.now)
          (g.K.Sink.told c.loop-rest.sink) c.cut.ensures.lines (c.loop-rest.invariant.completes one faithful) (g.K.Sink.told c.run_next.new.sink)
          (c.in_default.ensures.projected one (still_faithful (g.L.Link.is_faithful c.args.link.now) (g.L.Link.is_faithful c.loop-rest.link) c.loop-rest.invariant.went.link_nature faithful))),
    )

pub loop-rest-preserved : goal.loop-rest-preserved
loop-rest-preserved g c =
    let s = c.args.session.now in
    let A : List Decl = s.client in
    let B : List Decl = s.server in
    let whole : Course = lines_course s.profile A B s.trace 1 (lines_of c.args.calls.now) in
    let start : Seen = seen_alone g.K.Sink.told g.K.Sink.fault_record g.L.Link.log g.L.Link.is_faithful g.L.Link.fault_record c.args.sink.now c.args.link.now in
    let now : Seen = seen_alone g.K.Sink.told g.K.Sink.fault_record g.L.Link.log g.L.Link.is_faithful g.L.Link.fault_record c.loop-rest.sink c.loop-rest.link in
    let later : Seen = seen_alone g.K.Sink.told g.K.Sink.fault_record g.L.Link.log g.L.Link.is_faithful g.L.Link.fault_record c.run_next.new.sink c.run_next.new.link in
    let left : Course = lines_course s.profile A B s.trace (c.loop-rest.number + 1) (lines_of c.cut.result.1.now) in
    record {
      went = next_went s.profile A B s.trace c.loop-rest.number whole c.loop-rest.rest.now c.cut.result.0.now c.cut.result.1.now start now later c.cut.ensures.lines c.loop-rest.invariant.went (c.in_default.ensures.steps left);
      completes = λ one faithful.
          (next_added s.profile A B s.trace c.loop-rest.number c.loop-rest.rest.now c.cut.result.0.now c.cut.result.1.now (projected_text s.profile A B s.trace 1 (lines_of c.args.calls.now)) (g.K.Sink.told c.args.sink.now)
          (g.K.Sink.told c.loop-rest.sink) c.cut.ensures.lines (c.loop-rest.invariant.completes one faithful) (g.K.Sink.told c.run_next.new.sink)
          (c.in_default.ensures.projected one (still_faithful (g.L.Link.is_faithful c.args.link.now) (g.L.Link.is_faithful c.loop-rest.link) c.loop-rest.invariant.went.link_nature faithful)));
      client = ap (λ (p : Printers). p.client) c.run_next.ensures.same ∙ c.loop-rest.invariant.client;
      server = ap (λ (p : Printers). p.server) c.run_next.ensures.same ∙ c.loop-rest.invariant.server;
      few = omega arith;
    }

pub returns-clause-ran : goal.returns-clause-ran
returns-clause-ran g c =
    let s = c.args.session.now in
    let A : List Decl = s.client in
    let B : List Decl = s.server in
    let whole : Course = lines_course s.profile A B s.trace 1 (lines_of c.args.calls.now) in
    let start : Seen = seen_alone g.K.Sink.told g.K.Sink.fault_record g.L.Link.log g.L.Link.is_faithful g.L.Link.fault_record c.args.sink.now c.args.link.now in
    let now : Seen = seen_alone g.K.Sink.told g.K.Sink.fault_record g.L.Link.log g.L.Link.is_faithful g.L.Link.fault_record c.loop-rest.sink c.loop-rest.link in
    lines_ended s.profile A B s.trace c.loop-rest.number whole c.loop-rest.rest.now start now
    (empty_list c.loop-rest.rest.now c.is_empty.result c.is_empty.ensures c.loop-rest-test.false) c.loop-rest.invariant.went

pub returns-clause-projected : goal.returns-clause-projected
returns-clause-projected g c =
    let s = c.args.session.now in
    let A : List Decl = s.client in
    let B : List Decl = s.server in
    λ one faithful verdict. (
      refl,
      lines_added s.profile A B s.trace c.loop-rest.number c.loop-rest.rest.now (projected_text s.profile A B s.trace 1 (lines_of c.args.calls.now)) (g.K.Sink.told c.args.sink.now)
          (g.K.Sink.told c.loop-rest.sink) (empty_list c.loop-rest.rest.now c.is_empty.result c.is_empty.ensures c.loop-rest-test.false) (c.loop-rest.invariant.completes one faithful),
    )
