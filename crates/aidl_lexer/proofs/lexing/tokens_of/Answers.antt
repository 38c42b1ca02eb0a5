use Rattle.std.proofs.Common.{◌≡◌, length, arith}
use Rattle.std.proofs.lemmas.Bool.Decides.{nat_tests}
use Rattle.aidl_lexer.proofs.Loop.{whole}
use Rattle.aidl_lexer.proofs.lexing.tokens_of.Goals as goal

pub returns : goal.returns
returns c =
    let z : length c.loop-rest.rest.now ≡ 0 = grind (arith, nat_tests) in
    whole c.loop-rest.out.items c.loop-rest.offset c.loop-rest.rest.now _ c.loop-rest.invariant.all z
