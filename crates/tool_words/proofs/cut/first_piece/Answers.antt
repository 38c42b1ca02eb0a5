use Rattle.std.proofs.Common.{arith}
use Rattle.std.proofs.lemmas.Bool.Decides.{nat_tests}
use Rattle.tool_words.proofs.Cuts.{cut_here}
use Rattle.tool_words.proofs.cut.first_piece.Goals as goal

pub returns-clause-pieces : goal.returns-clause-pieces
returns-clause-pieces c = cut_here c.args.mark c.args.text.now c.first_len-len.result c.first_len-len.ensures.value (let le = c.first_len-len.ensures.within in let ne = c.if-len-text.false in grind (arith, nat_tests))
