use Rattle.std.proofs.Common.{inl, inr, refl}
use Rattle.std.proofs.lemmas.Result.{err_from_is_err_and}
use Rattle.tree_commands.proofs.Results.{ends_more}
use Rattle.tree_commands.specs.Both.{IsFaultOfOne}
use Rattle.tree_commands.specs.Faults.{IsFaultAnswer}
use Rattle.tree_commands.proofs.checking.check_both.Goals as goal

pub returns-in_err-old-clause-err : goal.returns-in_err-old-clause-err
returns-in_err-old-clause-err c =
    let q = err_from_is_err_and c.from_residual.result c.from_residual.ensures.1 in
    rw (q.1, q.2) (ends_more (IsFaultAnswer c.args.first.now c.args.olds) (IsFaultOfOne c.args.first.now c.args.olds c.args.second.now c.args.news) c.in_err-old.field-0.0 (λ a is. inl (a, is, refl)) c.in_err-old.ensures.err)

pub returns-in_err-new-clause-err : goal.returns-in_err-new-clause-err
returns-in_err-new-clause-err c =
    let q = err_from_is_err_and c.from_residual-in_err-new.result c.from_residual-in_err-new.ensures.1 in
    rw (q.1, q.2) (ends_more (IsFaultAnswer c.args.second.now c.args.news) (IsFaultOfOne c.args.first.now c.args.olds c.args.second.now c.args.news) c.in_err-new.field-0.0
    (λ a is. inr (c.in_ok-old.old.decls, c.in_ok-old.ensures.ok, is)) c.in_err-new.ensures.err)
