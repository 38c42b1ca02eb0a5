use Rattle.std.proofs.Common.{length, subst, sym, ◌∙◌}
use Rattle.aidl_lexer.specs.steps.Reading.{Moves}
use Rattle.aidl_lexer.proofs.Loop.{read_token}
use Rattle.aidl_lexer.proofs.lexing.step.Goals as goal

pub returns-in_ok-push-in-Token-clause-read : goal.returns-in_ok-push-in-Token-clause-read
returns-in_ok-push-in-Token-clause-read c =
    let m = subst (λ f. Moves f (length c.args.rest.now)) c.in-Token.is c.in_ok-n.ensures.moves in
    read_token c.args.out.now.items c.push.new.self.items c.args.offset c.in-Token.n c.in-Token.kind c.args.rest.now
    (sym c.in_ok-n.ensures.value ∙ c.in-Token.is) m.0 m.1 c.in_ok-push-in-Token.ensures.items
