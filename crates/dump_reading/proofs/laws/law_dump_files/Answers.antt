use Rattle.dump_reading.proofs.filed.Paths.{paths_sorted, has_file}
use Rattle.dump_reading.proofs.laws.law_dump_files.Goals as goal

pub returns : goal.returns
returns c =
    let S = c.args.schema.now.decls in
    record { sorted = paths_sorted S; whole = has_file S c.law_valid.ensures.declarations c.law_valid.ensures.apart }
