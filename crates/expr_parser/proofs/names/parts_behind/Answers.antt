use Rattle.std.proofs.Common.{◌≡◌, ◌<◌, ◌≤◌, suc, sym, ap, ◌∙◌, true, [], ◌∷◌, length, arith}
use Rattle.std.proofs.lemmas.Result.{err_from_is_err_and}
use Rattle.expr_parser.specs.Reading.{names, with_names, name_of}
use Rattle.expr_parser.proofs.lemmas.Looping.{name_dot, name_last, name_none, name_no_more, fails_over}
use Rattle.expr_parser.proofs.names.parts_behind.Goals as goal

pub returns-in_err-name_of-clause-gives : goal.returns-in_err-name_of-clause-gives
returns-in_err-name_of-clause-gives c =
    let p = err_from_is_err_and c.from_residual-in_err-name_of.result c.from_residual-in_err-name_of.ensures.1 in
    rw (p.1, p.2) (fails_over c.in_err-name_of.field-0.0 (name_of c.in-Some.t.now.kind) (with_names (c.args.part ∷ []) (names true c.args.tokens.now)) c.in_err-name_of.ensures
    (λ e. sym c.loop-t.invariant.read ∙ name_none c.loop-t.items.items c.in-Some.t.now c.loop-t.rest.now c.in-Some.after.now c.in-Some.ensures e))

pub loop-t-preserved : goal.loop-t-preserved
loop-t-preserved c =
    let less : length c.in-Some-after_dot.next.now < length c.in-Some.after.now = c.in-Some-after_dot.ensures.left in
    let all : length c.loop-t.rest.now ≡ suc (length c.in-Some.after.now) = ap length c.in-Some.ensures in
    let left : length c.in-Some-after_dot.next.now ≤ length c.args.tokens.now = omega arith in
    record {
      read =
          name_dot c.loop-t.items.items c.push-in-Some.new.self.items c.in_ok-name_of.field-0 c.in-Some.t.now c.loop-t.rest.now c.in-Some.after.now c.in-Some-after_dot.next.now
          c.in-Some.ensures c.in_ok-name_of.ensures (sym c.in-Some-after_dot.ensures.value) c.in_ok-push-2.ensures.items
          ∙ c.loop-t.invariant.read;
      left = left;
    }

pub returns-in-None-clause-gives : goal.returns-in-None-clause-gives
returns-in-None-clause-gives c =
    rw (c.from_row.ensures, c.from_vec.ensures) (sym c.loop-t.invariant.read
    ∙ name_last c.loop-t.items.items c.push-in-Some.new.self.items c.in_ok-name_of.field-0 c.in-Some.t.now c.loop-t.rest.now c.in-Some.after.now
    c.in-Some.ensures c.in_ok-name_of.ensures (sym c.in-None.ensures.value) c.in_ok-push-2.ensures.items)

pub returns-clause-gives : goal.returns-clause-gives
returns-clause-gives c = sym c.loop-t.invariant.read ∙ name_no_more c.loop-t.items.items c.loop-t.rest.now c.in_default.ensures
