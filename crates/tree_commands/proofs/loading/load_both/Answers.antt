use Rattle.std.proofs.Common.{inl, inr}
use Rattle.std.proofs.lemmas.Result.{err_from_is_err_and}
use Rattle.aidl_outside.proofs.lemmas.Telling.{tells}
use Rattle.tool_frame.specs.Due.{PassesNone}
use Rattle.tree_commands.proofs.lemmas.Reading.{then_found, then_refused}
use Rattle.tool_frame.proofs.lemmas.Halts.{known_halts, known_last, knows, knows_both, knows_none}
use Rattle.tree_commands.proofs.loading.load_both.Goals as goal

pub returns-in_err-olds : goal.returns-in_err-olds
returns-in_err-olds g c =
    let q = err_from_is_err_and c.from_residual.result c.from_residual.ensures.1 in
    rw (q.1, q.2) (known_halts _ _ _ _ _ _ _ _ _ _ (knows_none _) c.in_err-olds.field-0.0 (λ call told is. inl is) (λ files a none passed. then_refused _ _ a passed) c.in_err-olds.ensures)

pub returns-in_err-news : goal.returns-in_err-news
returns-in_err-news g c =
    let q = err_from_is_err_and c.from_residual-in_err-news.result c.from_residual-in_err-news.ensures.1 in
    rw (q.1, q.2) (known_halts _ _ _ _ _ _ _ _ _ _ (knows _ _ _ _ _ _ c.in_ok-olds.ensures) c.in_err-news.field-0.0
    (λ call told is. inr (is, tells _ _ (PassesNone c.args.first.now) (λ files found. (c.in_ok-olds.olds, found)) told))
    (λ files a found passed. then_found _ _ _ a found passed) c.in_err-news.ensures)

pub returns : goal.returns
returns g c =
    known_last _ _ _ _ _ _ (c.in_ok-olds.olds, c.in_ok-news.news) (λ files both. both)
    (knows_both _ _ _ _ _ (knows _ _ _ _ _ _ c.in_ok-olds.ensures) (knows _ _ _ _ _ _ c.in_ok-news.ensures))
