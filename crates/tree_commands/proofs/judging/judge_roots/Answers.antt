use Rattle.std.proofs.Common.{◌≡◌}
use Rattle.std.proofs.lemmas.Result.{err_from_is_err_and}
use Rattle.aidl_schema.specs.Broken.{broken}
use Rattle.tree_commands.proofs.lemmas.Reading.{in_both_checked, in_both_unchecked}
use Rattle.tree_commands.specs.Judged.{judged}
use Rattle.tool_frame.proofs.lemmas.Halts.{early_as, known_early, known_halts, known_last, knows, knows_none}
use Rattle.tree_commands.proofs.judging.judge_roots.Goals as goal

pub returns-in_err-older : goal.returns-in_err-older
returns-in_err-older g c =
    let q = err_from_is_err_and c.from_residual.result c.from_residual.ensures.1 in
    rw (q.1, q.2) (known_halts _ _ _ _ _ _ _ _ _ _ (knows_none _) c.in_err-older.field-0.0 (λ call told is. is) (λ files a none is. in_both_unchecked c.args.old.now c.args.new.now files _ a is) c.in_err-older.ensures)

pub returns-in_err-printed : goal.returns-in_err-printed
returns-in_err-printed g c =
    let q = err_from_is_err_and c.from_residual-in_err-printed.result c.from_residual-in_err-printed.ensures.1 in
    rw (q.1, q.2) (known_early _ _ _ _ _ _ c.in_err-printed.field-0.0
    (λ files are. early_as c.in_err-printed.field-0.0 _ _ (λ a is. in_both_checked c.args.old.now c.args.new.now files (λ A B answer. answer ≡ judged (broken A B)) a _ _ are.0 are.1 is) c.in_err-printed.ensures) (knows _ _ _ _ _ _ c.in_ok-older.ensures))

pub returns : goal.returns
returns g c =
    known_last _ _ _ _ _ _ c.in_ok-printed.printed
    (λ files are. in_both_checked c.args.old.now c.args.new.now files (λ A B answer. answer ≡ judged (broken A B)) _ _ _ are.0 are.1 c.in_ok-printed.ensures) (knows _ _ _ _ _ _ c.in_ok-older.ensures)
