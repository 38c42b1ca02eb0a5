use Rattle.std.proofs.Common.{inl, inr}
use Rattle.std.proofs.lemmas.Result.{err_from_is_err_and}
use Rattle.aidl_base.specs.declared.limit.LimitName.TheVariants.{TextBytes}
use Rattle.aidl_outside.proofs.lemmas.Telling.{tells}
use Rattle.run_command.specs.declared.command.Prepared.{Prepared}
use Rattle.tool_frame.proofs.lemmas.Asked.{found_there}
use Rattle.tree_commands.proofs.lemmas.Reading.{early_by, early_bytes}
use Rattle.run_command.proofs.lemmas.RunsOne.{all_prepared, no_calls, no_schemas, no_text, no_trees}
use Rattle.tool_frame.specs.Results.{held}
use Rattle.tool_frame.proofs.lemmas.Halts.{known_early, known_halts, known_last, knows, knows_both, knows_none}
use Rattle.run_command.proofs.command.prepare.Goals as goal

pub returns-in_err-file : goal.returns-in_err-file
returns-in_err-file g c =
    let asked = c.args.asked in
    let q = err_from_is_err_and c.from_residual.result c.from_residual.ensures.1 in
    rw (q.1, q.2) (known_halts _ _ _ _ _ _ _ _ _ _ (knows_none _) c.in_err-file.field-0.0 (λ call told is. inl is)
    (λ files a none gone. no_calls asked.client.now asked.server.now asked.calls.now files a gone) c.in_err-file.ensures)

pub returns-in_err-olds : goal.returns-in_err-olds
returns-in_err-olds g c =
    let asked = c.args.asked in
    let q = err_from_is_err_and c.from_residual-in_err-olds.result c.from_residual-in_err-olds.ensures.1 in
    rw (q.1, q.2) (known_halts _ _ _ _ _ _ _ _ _ _ (knows _ _ _ _ _ _ c.in_ok-file.ensures) c.in_err-olds.field-0.0
    (λ call told is. inr (is, tells _ _ _ (λ files there. found_there TextBytes asked.calls.now files _ there) told))
    (λ files a there passed. no_trees asked.client.now asked.server.now asked.calls.now files a (held c.in_ok-file.file) there passed) c.in_err-olds.ensures)

pub returns-in_err-text : goal.returns-in_err-text
returns-in_err-text g c =
    let asked = c.args.asked in
    let q = err_from_is_err_and c.from_residual-in_err-text.result c.from_residual-in_err-text.ensures.1 in
    rw (q.1, q.2) (known_early _ _ _ _ _ _ c.in_err-text.field-0.0
    (λ files both. early_bytes c.in_err-text.field-0.0 _ _ (λ a long. no_text asked.client.now asked.server.now asked.calls.now files a (held c.in_ok-file.file) both.0 _ _ both.1 long) c.in_err-text.ensures)
    (knows_both _ _ _ _ _ (knows _ _ _ _ _ _ c.in_ok-file.ensures) (knows _ _ _ _ _ _ c.in_ok-olds.ensures)))

pub returns-in_err-client : goal.returns-in_err-client
returns-in_err-client g c =
    let asked = c.args.asked in
    let q = err_from_is_err_and c.from_residual-in_err-client.result c.from_residual-in_err-client.ensures.1 in
    rw (q.1, q.2) (known_early _ _ _ _ _ _ c.in_err-client.field-0.0
    (λ files both. early_by c.in_err-client.field-0.0 _ _ (λ a is. no_schemas asked.client.now asked.server.now asked.calls.now files a (held c.in_ok-file.file) both.0 _ _ both.1 _ c.in_ok-text.ensures is) c.in_err-client.ensures.err)
    (knows_both _ _ _ _ _ (knows _ _ _ _ _ _ c.in_ok-file.ensures) (knows _ _ _ _ _ _ c.in_ok-olds.ensures)))

pub returns : goal.returns
returns g c =
    let asked = c.args.asked in
    let r : Prepared = record { text = c.in_ok-text.text; client = c.in_ok-client.client; server = c.in_ok-client.server } in
    known_last _ _ _ _ _ _ r
    (λ files both. all_prepared asked.client.now asked.server.now asked.calls.now files r (held c.in_ok-file.file) _ _ both.0 both.1 c.in_ok-text.ensures c.in_ok-client.ensures.ok.0 c.in_ok-client.ensures.ok.1)
    (knows_both _ _ _ _ _ (knows _ _ _ _ _ _ c.in_ok-file.ensures) (knows _ _ _ _ _ _ c.in_ok-olds.ensures))
