use Rattle.std.proofs.Common.{◌≡◌, ◌+◌, ◌-◌, ◌<◌, ◌≤◌, suc, length, sym, ◌∙◌, ap, arith}
use Rattle.std.proofs.lemmas.Result.{err_from_is_err_and}
use Rattle.aidl_syntax.specs.Trees.{expr_of}
use Rattle.expr_parser.specs.Levels.{rank}
use Rattle.expr_parser.specs.Reading.{climb, expr}
use Rattle.expr_parser.proofs.lemmas.Looping.{climb_end, climb_stop, climb_none, climb_more, fails_over}
use Rattle.expr_parser.proofs.expressions.+expr.Goals as goal

pub climb-returns-in_default-operator-clause-gives : goal.climb-returns-in_default-operator-clause-gives
climb-returns-in_default-operator-clause-gives t c =
    sym c.loop-t.invariant.all ∙ climb_stop (λ k us. expr c.args.fuel k us) c.loop-t.rounds (rank c.args.least) (expr_of c.loop-t.tree) c.in-Some.t.now c.loop-t.rest.now c.in-Some.after.now c.in-Some.ensures c.in_default-operator.ensures

pub climb-returns-in_err-right-clause-gives : goal.climb-returns-in_err-right-clause-gives
climb-returns-in_err-right-clause-gives t c =
    let p = err_from_is_err_and c.from_residual.result c.from_residual.ensures.1 in
    let o = c.in-Some-operator.ensures in
    rw (p.1, p.2) (fails_over c.in_err-right.field-0.0 (expr c.args.fuel (rank c.above.result) c.in-Some.after.now)
    (climb (λ k us. expr c.args.fuel k us) c.args.fuel (rank c.args.least) (expr_of c.args.first) c.args.tokens.now) c.in_err-right.ensures.gives
    (λ e. sym c.loop-t.invariant.all ∙ climb_none (λ k us. expr c.args.fuel k us) c.loop-t.rounds (rank c.args.least) (expr_of c.loop-t.tree) c.in-Some.t.now c.loop-t.rest.now c.in-Some.after.now c.in-Some.ensures o.2
    (ap (λ v. expr c.args.fuel v c.in-Some.after.now) (sym (c.above.ensures ∙ ap (λ v. v + 1) o.1)) ∙ e)))

pub climb-loop-t-preserved : goal.climb-loop-t-preserved
climb-loop-t-preserved t c =
    let o = c.in-Some-operator.ensures in
    let lt : 0 < c.loop-t.rounds = omega arith in
    let less : length c.in_ok-right.next.now < length c.in-Some.after.now = c.in_ok-right.ensures.left in
    let all : length c.loop-t.rest.now ≡ suc (length c.in-Some.after.now) = ap length c.in-Some.ensures in
    let enough : length c.in_ok-right.next.now < c.loop-t.rounds - 1 = omega arith in
    let left : length c.in_ok-right.next.now ≤ length c.args.tokens.now = omega arith in
    record {
      all =
          ap (λ x. climb (λ k us. expr c.args.fuel k us) (c.loop-t.rounds - 1) (rank c.args.least) x c.in_ok-right.next.now) c.in_ok-tree.ensures.ok
          ∙ sym (climb_more (λ k us. expr c.args.fuel k us) c.loop-t.rounds (rank c.args.least) (expr_of c.loop-t.tree) (expr_of c.in_ok-right.right) c.in-Some-operator.sign c.in-Some.t.now c.loop-t.rest.now c.in-Some.after.now c.in_ok-right.next.now
          c.in-Some.ensures o.0 o.2 lt (ap (λ v. expr c.args.fuel v c.in-Some.after.now) (sym (c.above.ensures ∙ ap (λ v. v + 1) o.1)) ∙ c.in_ok-right.ensures.gives))
          ∙ c.loop-t.invariant.all;
      enough = enough;
      left = left;
    }

pub climb-returns-clause-gives : goal.climb-returns-clause-gives
climb-returns-clause-gives t c = sym c.loop-t.invariant.all ∙ climb_end (λ k us. expr c.args.fuel k us) c.loop-t.rounds (rank c.args.least) (expr_of c.loop-t.tree) c.loop-t.rest.now c.in_default.ensures
