use Rattle.std.proofs.Common.{◌∙◌, ap}
use Rattle.std.proofs.lemmas.Result.{err_from_is_err_and}
use Rattle.make_command.proofs.Laying.{both_ends, one_ends}
use Rattle.make_command.specs.Making.{make_course}
use Rattle.make_command.proofs.command.check_laid.Goals as goal

pub returns-in_err-client : goal.returns-in_err-client
returns-in_err-client c =
    let q = err_from_is_err_and c.from_residual.result c.from_residual.ensures.1 in
    rw (q.1, q.2) (one_ends c.args.laid c.in_err-client.field-0.0 _ _ c.as_str-newer.ensures.value c.as_str-older.ensures.value c.in_err-client.ensures.err)

pub returns : goal.returns
returns c = λ course e.
    both_ends c.args.laid c.in_ok-client.server.decls c.in_ok-client.client.decls c.in_ok-client.ensures.ok.0 c.in_ok-client.ensures.ok.1 course
    (e ∙ ap (make_course c.in_ok-client.server.decls c.in_ok-client.client.decls) c.into_vec.ensures)
