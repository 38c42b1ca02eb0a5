use Rattle.std.proofs.Common.{inl, inr}
use Rattle.std.proofs.lemmas.Result.{err_from_is_err_and}
use Rattle.aidl_base.specs.declared.limit.LimitName.TheVariants.{TextBytes}
use Rattle.aidl_outside.proofs.lemmas.Telling.{tells}
use Rattle.ask_command.specs.Asked.{words_seen}
use Rattle.tool_frame.proofs.lemmas.Asked.{found_there}
use Rattle.ask_command.proofs.AskSteps.{answers, no_file, no_versions}
use Rattle.tool_frame.specs.Results.{held, printed}
use Rattle.tool_frame.proofs.lemmas.Halts.{early_gives, known_early, known_halts, known_last, knows, knows_both, knows_none}
use Rattle.ask_command.proofs.asking.ask_api.Goals as goal

pub returns-in_err-file : goal.returns-in_err-file
returns-in_err-file g c =
    let q = err_from_is_err_and c.from_residual.result c.from_residual.ensures.1 in
    rw (q.1, q.2) (known_halts _ _ _ _ _ _ _ _ _ _ (knows_none _) c.in_err-file.field-0.0 (λ call told is. inl is)
    (λ files a none gone. no_file (words_seen c.args.asked) c.args.asked.path.now files a gone) c.in_err-file.ensures)

pub returns-in_err-versions : goal.returns-in_err-versions
returns-in_err-versions g c =
    let q = err_from_is_err_and c.from_residual-in_err-versions.result c.from_residual-in_err-versions.ensures.1 in
    rw (q.1, q.2) (known_halts _ _ _ _ _ _ _ _ _ _ (knows _ _ _ _ _ _ c.in_ok-file.ensures) c.in_err-versions.field-0.0
    (λ call told is. inr (is, tells _ _ _ (λ files there. found_there TextBytes c.args.asked.path.now files _ there) told))
    (λ files a there refused. no_versions (words_seen c.args.asked) c.args.asked.path.now files a (held c.in_ok-file.file) there refused) c.in_err-versions.ensures)

pub returns-in_err-printed : goal.returns-in_err-printed
returns-in_err-printed g c =
    let q = err_from_is_err_and c.from_residual-in_err-printed.result c.from_residual-in_err-printed.ensures.1 in
    rw (q.1, q.2) (known_early _ _ _ _ _ _ c.in_err-printed.field-0.0
    (λ files both. early_gives c.in_err-printed.field-0.0 _ _ (λ a is. answers (words_seen c.args.asked) c.args.asked.path.now files a (held c.in_ok-file.file) both.0 c.in_ok-versions.versions both.1 is) c.in_err-printed.ensures)
    (knows_both _ _ _ _ _ (knows _ _ _ _ _ _ c.in_ok-file.ensures) (knows _ _ _ _ _ _ c.in_ok-versions.ensures)))

pub returns : goal.returns
returns g c =
    known_last _ _ _ _ _ _ c.in_ok-printed.printed
    (λ files both. answers (words_seen c.args.asked) c.args.asked.path.now files (printed c.in_ok-printed.printed) (held c.in_ok-file.file) both.0 c.in_ok-versions.versions both.1 c.in_ok-printed.ensures)
    (knows_both _ _ _ _ _ (knows _ _ _ _ _ _ c.in_ok-file.ensures) (knows _ _ _ _ _ _ c.in_ok-versions.ensures))
