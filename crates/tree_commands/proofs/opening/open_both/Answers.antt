use Rattle.std.proofs.Common.{refl}
use Rattle.std.proofs.lemmas.Result.{err_from_is_err_and}
use Rattle.tool_frame.specs.Answer.{AsAnswer}
use Rattle.tool_frame.specs.Trees.{tree_at}
use Rattle.tree_commands.specs.Both.{IsFaultOfOne}
use Rattle.tree_commands.proofs.lemmas.Reading.{both_found, both_long, early_by, has_schema}
use Rattle.tool_frame.proofs.lemmas.Halts.{known_early, known_halts, known_last, knows, knows_none}
use Rattle.tree_commands.proofs.opening.open_both.Goals as goal

pub returns-in_err-olds : goal.returns-in_err-olds
returns-in_err-olds g c =
    let q = err_from_is_err_and c.from_residual.result c.from_residual.ensures.1 in
    rw (q.1, q.2) (known_halts _ _ _ _ _ _ _ _ _ _ (knows_none _) c.in_err-olds.field-0.0 (λ call told is. is)
    (λ files a none passed. both_long AsAnswer (λ olds. IsFaultOfOne c.args.first.now olds c.args.second.now) a a refl (tree_at files c.args.first.now) (tree_at files c.args.second.now) passed) c.in_err-olds.ensures)

pub returns-in_err-schemas : goal.returns-in_err-schemas
returns-in_err-schemas g c =
    let q = err_from_is_err_and c.from_residual-in_err-schemas.result c.from_residual-in_err-schemas.ensures.1 in
    rw (q.1, q.2) (known_early _ _ _ _ _ _ c.in_err-schemas.field-0.0
    (λ files are. early_by c.in_err-schemas.field-0.0 _ _
    (λ a is. both_found AsAnswer (λ olds. IsFaultOfOne c.args.first.now olds c.args.second.now) a (tree_at files c.args.first.now) (tree_at files c.args.second.now) _ _ are.0 are.1 is) c.in_err-schemas.ensures.err)
    (knows _ _ _ _ _ _ c.in_ok-olds.ensures))

pub returns : goal.returns
returns g c =
    known_last _ _ _ _ _ _ c.in_ok-schemas.schemas
    (λ files are. (has_schema _ _ _ are.0 c.in_ok-schemas.ensures.ok.0, has_schema _ _ _ are.1 c.in_ok-schemas.ensures.ok.1)) (knows _ _ _ _ _ _ c.in_ok-olds.ensures)
