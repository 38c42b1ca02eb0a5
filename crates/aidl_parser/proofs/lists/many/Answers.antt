use Rattle.std.proofs.Common.{◌≡◌, ◌-◌, ◌<◌, ◌≤◌, length, map, sym, ◌∙◌, true, false, arith}
use Rattle.std.proofs.lemmas.Result.{err_from_is_err_and}
use Rattle.aidl_parser.specs.steps.Parts.{with_items}
use Rattle.aidl_parser.specs.steps.Repeats.{goes_on, round, many_by}
use Rattle.expr_parser.proofs.lemmas.Looping.{fails_over}
use Rattle.aidl_parser.proofs.lemmas.Rounds as rounds
use Rattle.aidl_parser.proofs.lists.many.Goals as goal

pub rounds-preserved : goal.rounds-preserved
rounds-preserved g c =
    let b : goes_on c.args.repeat c.rounds.rest.now ≡ true = cc in
    let lt : 0 < c.rounds.rounds = omega arith in
    let less : length c.in_ok-item.next.now < length c.rounds.rest.now = c.in_ok-item.ensures.left in
    let enough : length c.in_ok-item.next.now < c.rounds.rounds - 1 = omega arith in
    let left : length c.in_ok-item.next.now ≤ length c.args.tokens.now = omega arith in
    record {
      read =
          rounds.goes_on (goes_on c.args.repeat) (round c.args.repeat (g.T.Part.read c.args.fuel)) g.T.Part.seen c.rounds.rounds c.rounds.all c.push.new.self c.in_ok-item.item c.rounds.rest.now c.in_ok-item.next.now b lt c.in_ok-item.ensures.gives c.in_ok-push.ensures.ok
          ∙ c.rounds.invariant.read;
      enough = enough;
      left = left;
    }

pub returns-clause-gives : goal.returns-clause-gives
returns-clause-gives g c =
    let b : goes_on c.args.repeat c.rounds.rest.now ≡ false = cc in
    sym c.rounds.invariant.read ∙ rounds.stops (goes_on c.args.repeat) (round c.args.repeat (g.T.Part.read c.args.fuel)) c.rounds.rounds (map g.T.Part.seen c.rounds.all) c.rounds.rest.now b

pub returns-in_err-item-clause-gives : goal.returns-in_err-item-clause-gives
returns-in_err-item-clause-gives g c =
    let p = err_from_is_err_and c.from_residual.result c.from_residual.ensures.1 in
    let b : goes_on c.args.repeat c.rounds.rest.now ≡ true = cc in
    rw (p.1, p.2) (fails_over c.in_err-item.field-0.0 (round c.args.repeat (g.T.Part.read c.args.fuel) c.rounds.rest.now) (with_items (map g.T.Part.seen c.args.items) (many_by c.args.fuel c.args.repeat (g.T.Part.read c.args.fuel) c.args.tokens.now)) c.in_err-item.ensures.gives
    (λ e. sym c.rounds.invariant.read ∙ rounds.fails (goes_on c.args.repeat) (round c.args.repeat (g.T.Part.read c.args.fuel)) c.rounds.rounds (map g.T.Part.seen c.rounds.all) c.rounds.rest.now b e))
