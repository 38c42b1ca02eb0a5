use Rattle.tree_schema.proofs.lemmas.settled.Laws.{placed-files}
use Rattle.dump_reading.proofs.valued.Enums.{enums_bare}
use Rattle.dump_reading.proofs.named.Entries.{are_entries}
use Rattle.dump_reading.proofs.valued.Entries.{has_values}
use Rattle.dump_reading.proofs.laws.law_dump_values.Goals as goal

pub returns : goal.returns
returns c = λ files h rise outcomes each j e at.
    let S = c.args.schema.now.decls in let l = c.law_valid.ensures in
    has_values S l.declarations l.sorted l.apart (enums_bare S c.args.schema.now.valid.enums) files (are_entries S l.declarations l.sorted l.apart files h) (placed-files files rise) outcomes each j e at
