use Rattle.std.proofs.Common.{map, arith}
use Rattle.std.proofs.lemmas.Result.{err_from_is_err_and}
use Rattle.declared_names.specs.Entries.{entry_of}
use Rattle.declared_names.proofs.Walks.{file_full}
use Rattle.declared_names.proofs.walking.walk.Goals as goal

pub returns-in_err-add_file-clause-err : goal.returns-in_err-add_file-clause-err
returns-in_err-add_file-clause-err c =
    let p = err_from_is_err_and c.from_residual.result c.from_residual.ensures.1 in
    rw (p.1, p.2) (file_full c.args.files.now c.loop-i.i c.index-files-i.result (map entry_of c.loop-i.found.items) _ c.in_err-add_file.field-0.0 (omega arith) c.index-files-i.is c.loop-i.invariant c.in_err-add_file.ensures.err)
