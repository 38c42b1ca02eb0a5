use Rattle.tree_schema.proofs.lemmas.settled.Laws.{placed-files}
use Rattle.dump_reading.proofs.valued.Enums.{enums_bare}
use Rattle.dump_reading.proofs.named.Entries.{are_entries}
use Rattle.dump_reading.proofs.settled.Given.{all_given, none_broken}
use Rattle.dump_reading.proofs.laws.law_dump_constants.Goals as goal

pub returns : goal.returns
returns c =
    let S = c.args.schema.now.decls in let l = c.law_valid.ensures in
    let enums = enums_bare S c.args.schema.now.valid.enums in
    record {
      given = λ files h rise. all_given S l.declarations l.sorted l.apart enums files (are_entries S l.declarations l.sorted l.apart files h) (placed-files files rise);
      unbroken = λ files h rise outcomes each. none_broken S l.declarations l.sorted l.apart enums files (are_entries S l.declarations l.sorted l.apart files h) (placed-files files rise) outcomes each;
    }
