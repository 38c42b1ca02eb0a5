use Rattle.tree_schema.proofs.lemmas.settled.Laws.{placed-files}
use Rattle.dump_reading.proofs.valued.Enums.{enums_bare}
use Rattle.dump_reading.proofs.named.Entries.{are_entries}
use Rattle.dump_reading.proofs.settled.Given.{none_broken}
use Rattle.dump_reading.proofs.ruled.Rules.{all_unbroken}
use Rattle.dump_reading.proofs.drafted.Schema.{schema_back, bounds_back}
use Rattle.dump_reading.proofs.laws.law_dump_schema.Goals as goal

pub returns : goal.returns
returns c =
    let S = c.args.schema.now.decls in let l = c.law_valid.ensures in let v = c.args.schema.now.valid in
    let enums = enums_bare S v.enums in
    record {
      same = λ files h rise outcomes each. schema_back S l.declarations l.sorted l.apart enums v.names files (are_entries S l.declarations l.sorted l.apart files h) (placed-files files rise) outcomes each;
      checked = λ files h rise outcomes each. let are = are_entries S l.declarations l.sorted l.apart files h in record {
        judged = each;
        constants = none_broken S l.declarations l.sorted l.apart enums files are (placed-files files rise) outcomes each;
        types = all_unbroken S l.declarations l.sorted l.apart enums files are;
        bounds = bounds_back S l.declarations l.sorted l.apart enums v.names files are (placed-files files rise) outcomes each v.bounds;
      };
    }
