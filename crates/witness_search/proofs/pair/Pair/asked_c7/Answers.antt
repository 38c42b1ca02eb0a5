use Rattle.std.proofs.Common.{IfOk, subst}
use Rattle.witness_search.specs.steps.Gives.{GivesIs}
use Rattle.witness_search.proofs.Halves.{C7_none, C7_part, with_slash, without_slash}
use Rattle.witness_search.proofs.pair.Pair.asked_c7.Goals as goal

pub returns-in-Some : goal.returns-in-Some
returns-in-Some c =
    let p = c.args.place.now in
    let is = c.as_str.ensures.bytes in
    let h = with_slash p c.as_str.result.now _ _ is c.in-Some.ensures in
    subst (λ o. IfOk c.c7_of_method.result (GivesIs c.args.self.now o)) (C7_part c.args.self.now.old c.args.self.now.new p h.0 h.1) (c.c7_of_method.ensures h.0.0 h.2)

pub returns-in-None : goal.returns-in-None
returns-in-None c =
    let p = c.args.place.now in
    let is = c.as_str.ensures.bytes in
    C7_none c.args.self.now.old c.args.self.now.new p (without_slash p c.as_str.result.now is c.in-None.ensures)
