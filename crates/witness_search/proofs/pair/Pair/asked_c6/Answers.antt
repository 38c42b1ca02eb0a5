use Rattle.std.proofs.Common.{IfOk, subst}
use Rattle.witness_search.specs.steps.Gives.{GivesIs}
use Rattle.witness_search.proofs.Halves.{C6_part, C6_whole, with_slash, without_slash}
use Rattle.witness_search.proofs.pair.Pair.asked_c6.Goals as goal

pub returns-in-Some : goal.returns-in-Some
returns-in-Some c =
    let p = c.args.place.now in
    let is = c.as_str-text.ensures.bytes in
    let h = with_slash p c.as_str-text.result.now _ _ is c.in-Some.ensures in
    subst (λ o. IfOk c.c6_of_argument.result (GivesIs c.args.self.now o)) (C6_part c.args.self.now.old c.args.self.now.new p h.0 h.1) (c.c6_of_argument.ensures h.0.0 h.2)

pub returns-in-None : goal.returns-in-None
returns-in-None c =
    let p = c.args.place.now in
    let is = c.as_str-text.ensures.bytes in
    let e = without_slash p c.as_str-text.result.now is c.in-None.ensures in
    subst (λ o. IfOk c.c6_of_method.result (GivesIs c.args.self.now o)) (C6_whole c.args.self.now.old c.args.self.now.new p e) (c.c6_of_method.ensures p is)
