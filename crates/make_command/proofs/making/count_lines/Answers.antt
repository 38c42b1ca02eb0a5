use Rattle.std.proofs.Common.{◌≡◌, ◌==◌, ℕ, true, false, List, length, refl, sym, ap, ◌∙◌, subst, arith}
use Rattle.std.proofs.lemmas.Result.{err_from_is_err_and}
use Rattle.aidl_schema.specs.declared.schema.Decl.{Decl}
use Rattle.make_command.specs.Making.{counted_course}
use Rattle.make_command.specs.Tally.{Counts, nothing}
use Rattle.make_command.specs.steps.Steps.{with_link}
use Rattle.run_command.specs.CallLines.{lines_of}
use Rattle.tool_frame.specs.Course.{Course}
use Rattle.tool_frame.specs.Courses.{Went}
use Rattle.tool_frame.specs.Exit.{number_of}
use Rattle.tool_frame.specs.Seen.{Seen}
use Rattle.tool_frame.proofs.lemmas.Courses.{went_none}
use Rattle.run_command.proofs.lemmas.Lines.{empty_list}
use Rattle.make_command.proofs.Counting.{next_ended, next_went, none_left}
use Rattle.make_command.proofs.making.count_lines.Goals as goal

pub cut-requires : goal.cut-requires
cut-requires g c = λ e.
    let none : (length c.loop-rest.rest.now == 0) ≡ true = subst (λ (xs : List ℕ). (length xs == 0) ≡ true) (sym e) refl in
    let never : false ≡ true = sym c.loop-rest-test.true ∙ c.is_empty.ensures ∙ none in
    cc

pub loop-rest-init : goal.loop-rest-init
loop-rest-init g c =
    let A : List Decl = c.args.client.now in
    let B : List Decl = c.args.server.now in
    record {
      went = λ others last.
          let whole : Course = counted_course A B last nothing (lines_of c.args.calls.now) in
          let start : Seen = with_link g.L.Link.log g.L.Link.is_faithful g.L.Link.fault_record others c.args.link.now in
          subst (λ (t : Counts). Went whole (counted_course A B last t (lines_of c.args.calls.now)) start start) (sym c.new-tally.ensures) (went_none whole start);
      few = omega (arith, ap (λ (t : Counts). t.lines) c.new-tally.ensures);
    }

pub loop-rest-preserved : goal.loop-rest-preserved
loop-rest-preserved g c =
    let A : List Decl = c.args.client.now in
    let B : List Decl = c.args.server.now in
    record {
      went = λ others last.
          let start : Seen = with_link g.L.Link.log g.L.Link.is_faithful g.L.Link.fault_record others c.args.link.now in
          let now : Seen = with_link g.L.Link.log g.L.Link.is_faithful g.L.Link.fault_record others c.loop-rest.link in
          let later : Seen = with_link g.L.Link.log g.L.Link.is_faithful g.L.Link.fault_record others c.count_line.new.link in
          next_went A B last (counted_course A B last nothing (lines_of c.args.calls.now)) c.loop-rest.tally c.loop-rest.rest.now c.cut.result.0.now c.cut.result.1.now start now later
          c.cut.ensures.lines (c.loop-rest.invariant.went others last) c.in_ok-next.next
          (c.in_ok-next.ensures.counts others (λ t. counted_course A B last t (lines_of c.cut.result.1.now)));
      few = omega (arith, c.in_ok-next.ensures.lines, c.cut.ensures.less);
    }

pub returns : goal.returns
returns g c = λ others last.
    let A : List Decl = c.args.client.now in
    let B : List Decl = c.args.server.now in
    none_left A B last (counted_course A B last nothing (lines_of c.args.calls.now)) c.loop-rest.tally c.loop-rest.rest.now
    (with_link g.L.Link.log g.L.Link.is_faithful g.L.Link.fault_record others c.args.link.now) (with_link g.L.Link.log g.L.Link.is_faithful g.L.Link.fault_record others c.loop-rest.link)
    (empty_list c.loop-rest.rest.now c.is_empty.result c.is_empty.ensures c.loop-rest-test.false) (c.loop-rest.invariant.went others last)

pub returns-in_err-next : goal.returns-in_err-next
returns-in_err-next g c = λ others last.
    let A : List Decl = c.args.client.now in
    let B : List Decl = c.args.server.now in
    let start : Seen = with_link g.L.Link.log g.L.Link.is_faithful g.L.Link.fault_record others c.args.link.now in
    let now : Seen = with_link g.L.Link.log g.L.Link.is_faithful g.L.Link.fault_record others c.loop-rest.link in
    let later : Seen = with_link g.L.Link.log g.L.Link.is_faithful g.L.Link.fault_record others c.count_line.new.link in
    let q = err_from_is_err_and c.from_residual.result c.from_residual.ensures.1 in
    rw (q.1, q.2)
    (next_ended A B last (counted_course A B last nothing (lines_of c.args.calls.now)) c.loop-rest.tally c.loop-rest.rest.now c.cut.result.0.now c.cut.result.1.now start now later
    c.cut.ensures.lines (c.loop-rest.invariant.went others last) (number_of c.in_err-next.field-0.0)
    (c.in_err-next.ensures.counts others (λ t. counted_course A B last t (lines_of c.cut.result.1.now))))
