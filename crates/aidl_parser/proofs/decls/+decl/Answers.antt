use Rattle.std.proofs.Common.{◌≡◌, ◌-◌, ◌<◌, ◌≤◌, length, map, sym, ◌∙◌, true, false, arith}
use Rattle.std.proofs.lemmas.Result.{err_from_is_err_and}
use Rattle.aidl_syntax.specs.declared.token.Symbol.TheVariants as mark
use Rattle.aidl_syntax.specs.Trees.{ahead_of, member_of}
use Rattle.aidl_parser.specs.steps.Parts.{begins}
use Rattle.aidl_parser.specs.steps.Decls.{members_at, member_at}
use Rattle.expr_parser.proofs.lemmas.Looping.{fails_over}
use Rattle.aidl_parser.proofs.MemberRounds.{stops, fails, goes_on}
use Rattle.aidl_parser.proofs.decls.+decl.Goals as goal

pub members-rounds-preserved : goal.members-rounds-preserved
members-rounds-preserved t c =
    let b : begins mark.CloseBrace c.rounds.rest.now ≡ false = cc in
    let lt : 0 < c.rounds.rounds = omega arith in
    let less : length c.in_ok-item.next.now < length c.rounds.rest.now = c.in_ok-item.ensures.left in
    let enough : length c.in_ok-item.next.now < c.rounds.rounds - 1 = omega arith in
    let left : length c.in_ok-item.next.now ≤ length c.args.tokens.now = omega arith in
    record {
      read =
          goes_on c.args.fuel c.rounds.rounds c.args.inside c.rounds.all c.push.new.self c.in_ok-item.item c.rounds.rest.now c.in_ok-item.next.now b lt c.in_ok-item.ensures.gives c.in_ok-push.ensures.ok
          ∙ c.rounds.invariant.read;
      enough = enough;
      left = left;
    }

pub members-returns-clause-gives : goal.members-returns-clause-gives
members-returns-clause-gives t c =
    let b : begins mark.CloseBrace c.rounds.rest.now ≡ true = cc in
    sym c.rounds.invariant.read ∙ stops c.args.fuel c.rounds.rounds c.args.inside (ahead_of (map member_of c.rounds.all)) c.rounds.rest.now b

pub members-returns-in_err-item-clause-gives : goal.members-returns-in_err-item-clause-gives
members-returns-in_err-item-clause-gives t c =
    let p = err_from_is_err_and c.from_residual.result c.from_residual.ensures.1 in
    let b : begins mark.CloseBrace c.rounds.rest.now ≡ false = cc in
    rw (p.1, p.2) (fails_over c.in_err-item.field-0.0 (member_at c.args.fuel c.args.inside c.rounds.rest.now) (members_at c.args.fuel c.args.fuel c.args.inside c.args.tokens.now) c.in_err-item.ensures.gives
    (λ e. sym c.rounds.invariant.read ∙ fails c.args.fuel c.rounds.rounds c.args.inside (ahead_of (map member_of c.rounds.all)) c.rounds.rest.now b e))
