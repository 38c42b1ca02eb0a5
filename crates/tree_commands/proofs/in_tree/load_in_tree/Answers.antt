use Rattle.std.proofs.Common.{inl, inr}
use Rattle.std.proofs.lemmas.Result.{err_from_is_err_and}
use Rattle.aidl_base.specs.declared.limit.LimitName.TheVariants.{TextBytes}
use Rattle.aidl_outside.proofs.lemmas.Telling.{tells}
use Rattle.tool_frame.proofs.lemmas.Asked.{found_there}
use Rattle.tool_frame.proofs.lemmas.Halts.{known_halts, known_last, knows, knows_both, knows_none}
use Rattle.tree_commands.proofs.lemmas.Reading.{then_found, then_refused}
use Rattle.tree_commands.proofs.in_tree.load_in_tree.Goals as goal

pub returns-in_err-file : goal.returns-in_err-file
returns-in_err-file g c =
    let q = err_from_is_err_and c.from_residual.result c.from_residual.ensures.1 in
    rw (q.1, q.2) (known_halts _ _ _ _ _ _ _ _ _ _ (knows_none _) c.in_err-file.field-0.0 (λ call told is. inl is) (λ files a none gone. then_refused _ _ a gone) c.in_err-file.ensures)

pub returns-in_err-named : goal.returns-in_err-named
returns-in_err-named g c =
    let q = err_from_is_err_and c.from_residual-in_err-named.result c.from_residual-in_err-named.ensures.1 in
    rw (q.1, q.2) (known_halts _ _ _ _ _ _ _ _ _ _ (knows _ _ _ _ _ _ c.in_ok-file.ensures) c.in_err-named.field-0.0
    (λ call told is. inr (is, tells _ _ _ (λ files there. found_there TextBytes c.args.path.now files _ there) told))
    (λ files a there passed. then_found _ _ _ a there passed) c.in_err-named.ensures)

pub returns : goal.returns
returns g c =
    known_last _ _ _ _ _ _ (c.in_ok-file.file, c.in_ok-named.named) (λ files both. both)
    (knows_both _ _ _ _ _ (knows _ _ _ _ _ _ c.in_ok-file.ensures) (knows _ _ _ _ _ _ c.in_ok-named.ensures))
