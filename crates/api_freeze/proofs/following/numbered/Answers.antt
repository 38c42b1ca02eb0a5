use Rattle.std.proofs.Common.{subst, arith}
use Rattle.std.specs.Prelude.{Err}
use Rattle.api_freeze.specs.steps.Following.{Fits}
use Rattle.api_freeze.proofs.Numbered.{unfit_numbered}
use Rattle.api_freeze.proofs.following.numbered.Goals as goal

pub returns-in-Err-clause-answer : goal.returns-in-Err-clause-answer
returns-in-Err-clause-answer c =
    unfit_numbered c.args.schema.now.decls c.args.count c.args.files c.in-Err.fault (omega (arith, c.number.ensures, c.if-count-number.false))
    (subst (λ fs. Fits c.args.schema.now.decls fs (Err c.in-Err.fault)) c.as_slice.ensures c.in-Err.ensures)
