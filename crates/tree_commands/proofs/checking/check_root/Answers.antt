use Rattle.std.proofs.Common.{◌≡◌}
use Rattle.std.proofs.lemmas.Result.{err_from_is_err_and}
use Rattle.tool_frame.specs.Trees.{tree_at}
use Rattle.tree_commands.specs.Checked.{accepted}
use Rattle.tree_commands.proofs.lemmas.Reading.{by_checked, by_unchecked}
use Rattle.tool_frame.proofs.lemmas.Halts.{early_as, known_early, known_halts, known_last, knows, knows_none}
use Rattle.tree_commands.proofs.checking.check_root.Goals as goal

pub returns-in_err-schema : goal.returns-in_err-schema
returns-in_err-schema g c =
    let q = err_from_is_err_and c.from_residual.result c.from_residual.ensures.1 in
    rw (q.1, q.2) (known_halts _ _ _ _ _ _ _ _ _ _ (knows_none _) c.in_err-schema.field-0.0 (λ call told is. is)
    (λ files a none is. by_unchecked c.args.root.now (λ S a. a ≡ accepted S) a (tree_at files c.args.root.now) is) c.in_err-schema.ensures)

pub returns-in_err-printed : goal.returns-in_err-printed
returns-in_err-printed g c =
    let q = err_from_is_err_and c.from_residual-in_err-printed.result c.from_residual-in_err-printed.ensures.1 in
    rw (q.1, q.2) (known_early _ _ _ _ _ _ c.in_err-printed.field-0.0
    (λ files has. early_as c.in_err-printed.field-0.0 _ _ (λ a is. by_checked c.args.root.now (λ S a. a ≡ accepted S) a (tree_at files c.args.root.now) _ has is) c.in_err-printed.ensures)
    (knows _ _ _ _ _ _ c.in_ok-schema.ensures))

pub returns : goal.returns
returns g c =
    known_last _ _ _ _ _ _ c.in_ok-printed.printed (λ files has. by_checked c.args.root.now (λ S a. a ≡ accepted S) _ (tree_at files c.args.root.now) _ has c.in_ok-printed.ensures)
    (knows _ _ _ _ _ _ c.in_ok-schema.ensures)
